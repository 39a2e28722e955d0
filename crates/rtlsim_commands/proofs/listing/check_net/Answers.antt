use Rattle.std.proofs.Common.{sym}
use Rattle.rtlsim_commands.specs.Listed.{form_text}
use Rattle.rtlsim_commands.proofs.Listed.{checks_failed, unchecked, writes_failed, writes_part}
use Rattle.rtlsim_commands.proofs.listing.check_net.Goals as goal

pub returns-in_err-judgement : goal.returns-in_err-judgement
returns-in_err-judgement g c = unchecked (form_text c.args.form.now) c.args.net.now _ _ c.from_residual.ensures.1

pub returns-in_err-show_judgement : goal.returns-in_err-show_judgement
returns-in_err-show_judgement g c =
    let failed = c.from_residual-in_err-show_judgement.ensures.1 in
    checks_failed (form_text c.args.form.now) c.args.net.now c.in_ok-judgement.judgement _ _ _ _ failed c.in_ok-judgement.ensures.judgement c.in_ok-judgement.ensures.once
    (writes_part _ _ _ _ failed c.requires.intact c.in_err-show_judgement.ensures)

pub returns-in_err-went_out : goal.returns-in_err-went_out
returns-in_err-went_out g c =
    let failed = c.from_residual-in_err-went_out.ensures.1 in
    checks_failed (form_text c.args.form.now) c.args.net.now c.in_ok-judgement.judgement _ _ _ _ failed c.in_ok-judgement.ensures.judgement c.in_ok-judgement.ensures.once
    (writes_failed _ _ _ _ _ failed c.requires.intact c.in_ok-show_judgement.ensures c.in_err-went_out.ensures.failed)

pub returns : goal.returns
returns g c = (
  record {
    judgement = c.in_ok-judgement.judgement;
    is = c.in_ok-judgement.ensures.judgement;
    once = c.in_ok-judgement.ensures.once;
    written = (c.in_ok-went_out.ensures.whole, (c.in_ok-show_judgement.ensures.whole c.in_ok-went_out.ensures.whole).1);
  },
  sym c.is_accepted.ensures,
)
