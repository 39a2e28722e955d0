use Rattle.std.proofs.Common.{subst, ◌∙◌}
use Rattle.byte_streams.specs.Written.{Goes}
use Rattle.rtlsim_listing.proofs.Printing.{none, refused, then}
use Rattle.rtlsim_commands.proofs.listing.show_behind.Goals as goal

pub returns-in_err-path : goal.returns-in_err-path
returns-in_err-path g c = refused c.from_residual.result _ _ _ _ c.from_residual.ensures.1 (none _ _)

pub returns-in_ok-path : goal.returns-in_ok-path
returns-in_ok-path g c =
    let state = g.S.Sink.state in
    let path = subst (λ text. Goes (state c.args.out.now) (state c.push_text.new.sink) text) (c.deref.ensures.value ∙ c.in_ok-path.ensures) c.push_text.ensures in
    rw c.if-telling.true (then c.show_remarks.result _ _ _ _ _ path c.show_remarks.ensures)
