use Rattle.std.proofs.Common.{◌≡◌, Some, refl, arith}
use Rattle.rtl_stim_lines.specs.Reading.{after_set}
use Rattle.rtl_stim_lines.specs.Inputs.{input_at, input_named, values_for}
use Rattle.rtl_stim_lines.specs.View.{inputs_view, said_view}
use Rattle.rtl_stim_lines.proofs.Saying.{set_leads, course_leads}
use Rattle.rtl_stim_lines.proofs.reading.Said.read_set.Goals as goal

pub returns-clause-said : goal.returns-clause-said
returns-clause-said c =
    let inputs = inputs_view c.args.inputs.now in
    let s = said_view c.args.self.now in
    let text = c.args.text.now in
    let values = c.in-Some-values_for.values in
    let input_is = rw c.in-Some.is at c.in_ok-place.ensures.input in
    let are : Some values ≡ values_for (input_at inputs c.in-Some.place) text = rw (input_is.1, input_is.2) (rw c.in-Some-values_for.is at c.values_for.ensures) in
    let within = rw c.in-Some.is at c.in_ok-place.ensures.within in
    set_leads inputs s (input_named inputs c.args.name.now) c.in-Some.place c.args.time c.args.line text values _ c.set.result (rw c.in-Some.is at c.in_ok-place.ensures.place) are
    (course_leads s c.args.self.now.courses.items c.in-Some.place c.args.line (after_set c.args.time values) c.index_mut.result.now c.set.new.self c.set.result refl
    (omega (arith, within, c.requires.each, c.args.self.now.courses.ok.0)) c.index_mut.ensures.value c.set.ensures)
