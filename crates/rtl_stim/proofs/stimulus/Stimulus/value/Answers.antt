use Rattle.std.proofs.Common.{◌≡◌, ◌<◌, ℕ, List, length, unwrap_or, ap, sym, subst, ◌∙◌, rules}
use Rattle.std.specs.Prelude.{Contains}
use Rattle.vhdl_values.specs.declared.scalar.Nine.TheVariants.{U}
use Rattle.rtl_stim_lines.specs.Inputs.{Element, input_at}
use Rattle.rtl_stim_lines.specs.Times.{element_value, nets_of, value_of}
use Rattle.rtl_stim_lines.specs.View.{course_in}
use Rattle.rtl_stim.specs.Stimuli.{StimulusView}
use Rattle.rtl_stim.specs.Kept.{stimulus_view}
use Rattle.rtl_stim.proofs.Places.{elements_seen}
use Rattle.rtl_stim.proofs.ValueOf.{unwrapped, value_at_place, value_nowhere}
use Rattle.rtl_stim.proofs.stimulus.Stimulus.value.Goals as goal

pub returns-in_default : goal.returns-in_default
returns-in_default c =
    let v = c.args.self.now in
    sym (value_nowhere v.inputs v.schedule.courses c.args.net c.args.time (λ q within there. let e = c.place_of.ensures.only q within there in let none = c.in_default.is in cc))

pub returns : goal.returns
returns c =
    let v = c.args.self.now in
    let s = stimulus_view c.self.inside in
    let view : v ≡ s = search rules in
    let place = c.in-Some.place in
    let within : place < length v.inputs = c.in-Some.ensures.within in
    let inside : place < length s.inputs = subst (λ (w : StimulusView). place < length w.inputs) view within in
    let seen = elements_seen s.inputs place inside c.elements_at-elements.result.now c.elements_at-elements.ensures in
    let only : (q : ℕ) → q < length s.inputs → Contains (nets_of (input_at s.inputs q)) c.args.net → place ≡ q =
    λ q less there. let e = c.place_of.ensures.only q (subst (λ (w : StimulusView). q < length w.inputs) (sym view) less) (subst (λ (w : StimulusView). Contains (nets_of (input_at w.inputs q)) c.args.net) (sym view) there) in
    let is = c.in-Some.is in cc in
    c.unwrap_or.ensures ∙ ap (λ o. unwrap_or o U) (c.value_among.ensures ∙ ap (λ (es : List Element). element_value (course_in s.schedule place) 0 es c.args.net c.args.time) (sym seen))
    ∙ sym (unwrapped (element_value (course_in s.schedule place) 0 (input_at s.inputs place).elements c.args.net c.args.time) U)
    ∙ sym (value_at_place s.inputs s.schedule.courses place c.args.net c.args.time inside c.self.invariant.stimulus.each_course only)
    ∙ ap (λ (w : StimulusView). value_of w.inputs w.schedule.courses c.args.net c.args.time) (sym view)
