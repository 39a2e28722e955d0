use Rattle.std.proofs.Common.{◌≡◌, suc, ◌+◌, List, map, drop, get_or, Some, false, cond, ap, sym, ◌∙◌, arith, add-one}
use Rattle.std.specs.Prelude.{◌==◌}
use Rattle.std.proofs.lemmas.Bool.Decides.{nat_tests}
use Rattle.vhdl_values.specs.declared.scalar.Nine.TheVariants.{U}
use Rattle.rtl_stim_lines.specs.declared.inputs.Element.{Element as KeptElement}
use Rattle.rtl_stim_lines.specs.Courses.{course_value}
use Rattle.rtl_stim_lines.specs.Times.{element_value}
use Rattle.rtl_stim_lines.specs.View.{course_in, element_view, schedule_view}
use Rattle.rtl_stim.proofs.ValueOf.{drop_one}
use Rattle.rtl_stim.proofs.stimulus.value_among.Goals as goal

pub loop-from_left-preserved : goal.loop-from_left-preserved
loop-from_left-preserved c =
    let es = c.args.elements.now in
    let i = c.loop-from_left.from_left in
    let d : KeptElement = record { net = 0; start = U } in
    let course = course_in (schedule_view c.args.schedule.now) c.args.place in
    let n = c.args.net in
    let t = c.args.time in
    let x = get_or es i d in
    let rest = map element_view (drop (i + 1) es) in
    let other : (x.net == n) ≡ false = let h = c.if-element-net.false in grind (arith, nat_tests) in
    c.loop-from_left.invariant
    ∙ ap (λ (xs : List KeptElement). element_value course i (map element_view xs) n t) (drop_one es i d c.loop-from_left-test.true)
    ∙ ap (λ b. cond b (Some (course_value course i x.start t)) (element_value course (suc i) rest n t)) other
    ∙ ap (λ k. element_value course k rest n t) (sym (add-one i))
