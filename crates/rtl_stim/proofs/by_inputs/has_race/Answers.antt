use Rattle.std.proofs.Common.{◌≡◌, Option, Some, None, true, ℕ, List, length, map, ◌<◌, ◌∙◌, sym}
use Rattle.std.specs.Prelude.{IfSome, is_some}
use Rattle.rtl_model.specs.simulation.Netlist.{Edge}
use Rattle.rtl_stim_lines.specs.declared.inputs.Element.{Element}
use Rattle.rtl_stim.specs.Stimuli.{StimulusView}
use Rattle.rtl_stim.specs.Quiet.{IsActiveAt, clock_at}
use Rattle.rtl_stim.proofs.ByInputs.{none_if_none_changes, some_race}
use Rattle.rtl_stim.proofs.by_inputs.has_race.Goals as goal

-- what a search for an active clock answers
active_of : (s : StimulusView) (clocks : List (ℕ × Edge)) (t : ℕ) (found : Option ℕ) → is_some found ≡ true
    → IfSome found (λ clock. (k : ℕ) × (k < length clocks) × IsActiveAt s clocks t k × (clock_at clocks k ≡ clock) × ((j : ℕ) → j < k → IsActiveAt s clocks t j → ⊥))
    → (k : ℕ) × (k < length clocks) × IsActiveAt s clocks t k
active_of s clocks t None some h = cc
active_of s clocks t (Some clock) some (k, within, active, is, first) = (k, within, active)

pub returns-then-is_some-clause-race : goal.returns-then-is_some-clause-race
returns-then-is_some-clause-race c =
    let s = c.args.stimulus.now in
    let clocks = c.args.clocks.now in
    let active = active_of s clocks c.args.time c.active_clock.result (sym c.is_some.ensures ∙ c.if-is_some.true) c.active_clock.ensures.found in
    λ yes none. some_race s clocks (map (λ (e : Element). e.net) c.args.elements.now) c.args.time active.0 active.1 active.2 (c.some_change.ensures.changed yes) none

pub returns-then-is_some-clause-none : goal.returns-then-is_some-clause-none
returns-then-is_some-clause-none c =
    λ no. none_if_none_changes c.args.stimulus.now c.args.clocks.now (map (λ (e : Element). e.net) c.args.elements.now) c.args.time (c.some_change.ensures.unchanged no)
