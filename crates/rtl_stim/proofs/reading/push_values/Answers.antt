use Rattle.std.proofs.Common.{◌++◌, ◌∷◌, [], ℕ, map, take, ap, sym, ◌∙◌, append_assoc}
use Rattle.vhdl_values.specs.declared.scalar.Nine.{Nine}
use Rattle.vhdl_values.specs.declared.scalar.Nine.TheVariants.{U}
use Rattle.rtl_stim_lines.specs.declared.inputs.Element.{Element as KeptElement}
use Rattle.rtl_stim_lines.specs.View.{element_view, schedule_view, course_in}
use Rattle.rtl_stim_lines.specs.Inputs.{Element}
use Rattle.rtl_stim_lines.specs.Courses.{course_value}
use Rattle.rtl_stim.specs.Numbered.{numbered}
use Rattle.rtl_stim.proofs.Numbering.{numbered_viewed}
use Rattle.rtl_stim.proofs.reading.push_values.Goals as goal

pub loop-from_left-preserved : goal.loop-from_left-preserved
loop-from_left-preserved c =
    let es = c.args.elements.now in
    let i = c.loop-from_left.from_left in
    let d : KeptElement = record { net = 0; start = U } in
    let f : ℕ → Element → Nine = λ place element. course_value (course_in (schedule_view c.args.schedule.now) c.args.place) place element.start 0 in
    let old = c.args.values.now.items in
    let before = numbered f 0 (map element_view (take i es)) in
    c.in_ok-push.ensures.items ∙ ap (λ vs. vs ++ c.value.result ∷ []) c.loop-from_left.invariant ∙ append_assoc old before (c.value.result ∷ [])
    ∙ ap (λ vs. old ++ vs) (ap (λ v. before ++ v ∷ []) c.value.ensures ∙ sym (numbered_viewed element_view f es i d c.loop-from_left-test.true))
