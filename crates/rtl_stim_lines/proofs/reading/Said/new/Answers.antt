use Rattle.std.proofs.Common.{◌≡◌, ℕ, List, [], map, length, replicate, None, sym, ap, ◌∙◌, arith}
use Rattle.std.proofs.lemmas.List.{length-map, length-replicate}
use Rattle.std.proofs.lemmas.Result.{IfOk-from_err}
use Rattle.rtl_stim_lines.specs.Courses.{Course, Sets}
use Rattle.rtl_stim_lines.specs.Reading.{Said}
use Rattle.rtl_stim_lines.specs.View.{course_view, input_view, inputs_view}
use Rattle.rtl_stim_lines.proofs.reading.Said.new.Goals as goal

pub loop-place-init : goal.loop-place-init
loop-place-init c = ap (map course_view) c.new-courses.ensures.items

pub returns-in_err-push : goal.returns-in_err-push
returns-in_err-push c = let r = c.from_residual in record { said = IfOk-from_err r.result _ r.ensures.0; each = IfOk-from_err r.result _ r.ensures.0 }

pub returns-clause-said : goal.returns-clause-said
returns-clause-said c =
    let inputs = inputs_view c.args.inputs.now in
    let end : c.loop-place.place ≡ length inputs = omega (arith, c.loop-place-test.false, c.len-place-end.ensures, length-map c.args.inputs.now.entries input_view) in
    ap {B = Said} (λ (cs : List Course). record { courses = cs; stop = None }) (c.loop-place.invariant ∙ ap (λ (n : ℕ). replicate n (Sets [])) end)

pub returns-clause-each : goal.returns-clause-each
returns-clause-each c =
    let inputs = inputs_view c.args.inputs.now in
    let end : c.loop-place.place ≡ length inputs = omega (arith, c.loop-place-test.false, c.len-place-end.ensures, length-map c.args.inputs.now.entries input_view) in
    let many = sym (length-map c.loop-place.courses.items course_view) ∙ ap length c.loop-place.invariant ∙ length-replicate c.loop-place.place (Sets []) in
    omega (arith, c.loop-place.courses.ok.0, many, end)
