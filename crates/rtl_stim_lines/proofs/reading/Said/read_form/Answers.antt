use Rattle.std.proofs.Common.{sym, subst}
use Rattle.rtl_stim_lines.specs.Reading.{in_line, set_input}
use Rattle.rtl_stim_lines.specs.Inputs.{input_named}
use Rattle.rtl_stim_lines.specs.View.{inputs_view, said_view, Leads}
use Rattle.rtl_stim_lines.proofs.Saying.{time_goes}
use Rattle.rtl_stim_lines.proofs.reading.Said.read_form.Goals as goal

pub returns-in_ok-time-in-At-clause-said : goal.returns-in_ok-time-in-At-clause-said
returns-in_ok-time-in-At-clause-said c =
    let inputs = inputs_view c.args.inputs.now in
    let s = said_view c.args.self.now in
    let goes = time_goes c.args.line c.in_ok-time-in-At.time c.in-At.time c.in_ok-time-in-At.ensures
    (λ t. set_input inputs s (input_named inputs c.in-At.name.now) t c.in-At.value.now) in
    rw c.in-At.is (subst (λ said. Leads (in_line c.args.line said) (said_view c.read_set.new.self) c.read_set.result) (sym goes) c.read_set.ensures.said)
