use Rattle.std.proofs.Common.{◌≡◌, ◌++◌, [], length, map, ap, ◌∙◌, arith}
use Rattle.std.proofs.lemmas.List.{length-map}
use Rattle.std.proofs.Common.{◌<◌}
use Rattle.std.specs.Prelude.{slice_index_or}
use Rattle.rtl_stim_lines.specs.Courses.{Sets}
use Rattle.rtl_stim.specs.Kept.{element_values}
use Rattle.rtl_stim_lines.specs.View.{inputs_view, input_view, element_view, course_view, courses_view}
use Rattle.rtl_stim.proofs.Courses.{input_more}
use Rattle.rtl_stim.proofs.reading.initial_values.Goals as goal

pub loop-place-preserved : goal.loop-place-preserved
loop-place-preserved c =
    let inputs = inputs_view c.args.inputs.now in
    let courses = courses_view c.args.schedule.now.courses in
    let each : length courses ≡ length inputs = omega (arith, length-map c.args.schedule.now.courses.items course_view, c.args.schedule.now.courses.ok.0, c.requires.each) in
    let within : c.loop-place.place < length inputs = omega (arith, c.loop-place-test.true, c.len-place-end.ensures.len, length-map c.args.inputs.now.entries input_view) in
    let es = map element_view c.elements_at.result.now in
    c.in_ok-push_values.ensures ∙ ap (λ vs. vs ++ element_values (slice_index_or courses c.loop-place.place (Sets [])) 0 es) c.loop-place.invariant
    ∙ input_more inputs courses c.requires.own each c.loop-place.place within 0 es c.elements_at.ensures
