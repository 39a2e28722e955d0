use Rattle.std.proofs.Common.{sym, ◌∙◌}
use Rattle.std.proofs.lemmas.Bool.{eqb-true}
use Rattle.rtlsim_commands.proofs.Runs.{none_stored, unknown_stored}
use Rattle.rtlsim_commands.proofs.running.refuse_stored.Goals as goal

pub returns-in_err-stored : goal.returns-in_err-stored
returns-in_err-stored c = unknown_stored c.args.net.now c.from_residual.result c.from_residual.ensures.1

pub returns-then-is_empty : goal.returns-then-is_empty
returns-then-is_empty c =
    let stored = c.in_ok-stored.stored in
    none_stored c.args.net.now stored.items stored.len c.in_ok-stored.ensures stored.ok.0 (eqb-true stored.len 0 (sym c.is_empty.ensures ∙ c.if-is_empty.true))
