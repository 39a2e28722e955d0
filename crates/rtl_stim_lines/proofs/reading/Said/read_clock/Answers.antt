use Rattle.std.proofs.Common.{refl, ◌∙◌, arith}
use Rattle.rtl_stim_lines.specs.Reading.{after_clock}
use Rattle.rtl_stim_lines.specs.Inputs.{input_named}
use Rattle.rtl_stim_lines.specs.View.{inputs_view, said_view}
use Rattle.rtl_stim_lines.proofs.Saying.{clock_leads, course_leads}
use Rattle.rtl_stim_lines.proofs.reading.Said.read_clock.Goals as goal

pub returns-clause-said : goal.returns-clause-said
returns-clause-said c =
    let inputs = inputs_view c.args.inputs.now in
    let s = said_view c.args.self.now in
    let place = c.in-Some.place in
    let input_is = rw c.in-Some.is at c.in_ok-place.ensures.input in
    let within = rw c.in-Some.is at c.in_ok-place.ensures.within in
    clock_leads inputs s (input_named inputs c.args.name.now) place c.args.first c.args.half c.args.line _ c.tick.result (rw c.in-Some.is at c.in_ok-place.ensures.place) (input_is.0 ∙ c.if-not-input.false)
    (course_leads s c.args.self.now.courses.items place c.args.line (after_clock c.args.first c.args.half) c.index_mut.result.now c.tick.new.self c.tick.result refl
    (omega (arith, within, c.requires.each, c.args.self.now.courses.ok.0)) c.index_mut.ensures.value c.tick.ensures)
