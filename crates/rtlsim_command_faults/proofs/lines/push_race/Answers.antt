use Rattle.std.proofs.Common.{◌∙◌}
use Rattle.byte_streams.proofs.Writing.{Goes-append}
use Rattle.rtlsim_listing.proofs.Printing.{none, refused}
use Rattle.rtlsim_command_faults.proofs.Told.{goes_along}
use Rattle.rtlsim_command_faults.proofs.lines.push_race.Goals as goal

pub returns-in_err-input : goal.returns-in_err-input
returns-in_err-input g c = refused c.from_residual.result _ _ _ _ c.from_residual.ensures.1 (none _ _)

pub returns-in_err-clock : goal.returns-in_err-clock
returns-in_err-clock g c = refused c.from_residual-in_err-clock.result _ _ _ _ c.from_residual-in_err-clock.ensures.1 (none _ _)

pub returns : goal.returns
returns g c =
    let state = g.S.Sink.state in
    let input = goes_along (state c.push_text-2.new.sink) (state c.push_text-3.new.sink) _ _ (c.deref.ensures.value ∙ c.in_ok-input.ensures) c.push_text-3.ensures in
    let clock = goes_along (state c.push_text-4.new.sink) (state c.push_text-5.new.sink) _ _ (c.deref-2.ensures.value ∙ c.in_ok-clock.ensures) c.push_text-5.ensures in
    Goes-append _ _ _ _ _ (Goes-append _ _ _ _ _ (Goes-append _ _ _ _ _ (Goes-append _ _ _ _ _ (Goes-append _ _ _ _ _ (Goes-append _ _ _ _ _ (Goes-append _ _ _ _ _ c.push_rule.ensures c.push_text.ensures) c.push_number.ensures) c.push_text-2.ensures) input) c.push_text-4.ensures) clock) c.push_text-6.ensures
