-- The edges of a net at times at which inputs change.
use Rattle.std.proofs.Common.{◌≡◌, ℕ, ◌-◌, ◌<◌, ◌+◌, ◌≤◌, Bool, true, false, not, List, length, ⊎_elim, refl, sym, ap, subst, ◌∙◌, arith}
use Rattle.std.specs.Prelude.{IsTrue, Contains, ◌&&◌, ◌==◌}
use Rattle.std.specs.BTreeSet.{BTreeSet}
use Rattle.std.proofs.Math.Nat.{eq-or-lt_of_le}
use Rattle.std.proofs.lemmas.Bool.{cases_lt}
use Rattle.std.proofs.lemmas.Bool.Decides.{nat_tests}
use Rattle.vhdl_values.specs.declared.kinds.Edge.{Edge}
use Rattle.vhdl_values.specs.declared.kinds.Edge.TheVariants.{Rising, Falling, To1, To0}
use Rattle.vhdl_values.specs.declared.scalar.Nine.{Nine}
use Rattle.vhdl_values.specs.declared.scalar.Nine.TheVariants.{Zero, One, U}
use Rattle.vhdl_values.specs.Edges.{has_edge}
use Rattle.vhdl_values.specs.Scalar.{code_of, is_same, x01_of}
use Rattle.rtl_stim_lines.specs.Inputs.{input_at}
use Rattle.rtl_stim_lines.specs.Courses.{Course, is_busy}
use Rattle.rtl_stim_lines.specs.Times.{nets_of, value_at, value_or}
use Rattle.rtl_stim_lines.specs.View.{course_in}
use Rattle.rtl_stim.specs.Stimuli.{StimulusView}
use Rattle.rtl_stim.specs.Moments.{IsStimulus}
use Rattle.rtl_stim.specs.Quiet.{HasEdgeAt, IsActiveAt, IsAmong, HasSearched}
use Rattle.rtl_stim.proofs.Edges.{elements_stay}
use Rattle.rtl_stim.proofs.ValueOf.{value_at_place, value_nowhere}

same : (v : Nine) → is_same v v ≡ true
same v = let n = code_of v in let e : (n == n) ≡ true = grind (arith, nat_tests) in e

no_edge : (edge : Edge) (v : Nine) → has_edge edge v v ≡ false
no_edge Rising v = ap (λ b. not b && is_same (x01_of v) Zero && is_same (x01_of v) One) (same v)
no_edge Falling v = ap (λ b. not b && is_same (x01_of v) One && is_same (x01_of v) Zero) (same v)
no_edge To1 v = ap (λ b. not b && is_same v One) (same v)
no_edge To0 v = ap (λ b. not b && is_same v Zero) (same v)

still : (s : StimulusView) (n : ℕ) (edge : Edge) (t : ℕ) → value_at s.inputs s.schedule n (t - 1) ≡ value_at s.inputs s.schedule n t → HasEdgeAt s n edge t → ⊥
still s n edge t same_value active = let none = ap (λ v. has_edge edge v (value_at s.inputs s.schedule n t)) same_value ∙ no_edge edge (value_at s.inputs s.schedule n t) in cc

module _ (s : StimulusView) (n : ℕ) (edge : Edge) (t : ℕ) where
  -- no input has the net
  pub edgeless : ((q : ℕ) → q < length s.inputs → Contains (nets_of (input_at s.inputs q)) n → ⊥) → HasEdgeAt s n edge t → ⊥
  edgeless none = still s n edge t (value_nowhere s.inputs s.schedule.courses n (t - 1) none ∙ sym (value_nowhere s.inputs s.schedule.courses n t none))

  -- the only input that may have it isn't busy
  pub edge_is_busy : IsStimulus s → (place : ℕ) → 0 < t → place < length s.inputs → ((q : ℕ) → q < length s.inputs → Contains (nets_of (input_at s.inputs q)) n → place ≡ q)
      → HasEdgeAt s n edge t → IsTrue (is_busy (course_in s.schedule place) t)
  edge_is_busy is place later within only active = by (is_busy (course_in s.schedule place) t) refl
    where
      by : (b : Bool) → is_busy (course_in s.schedule place) t ≡ b → b ≡ true
      by true e = refl
      by false e =
          let value = λ (u : ℕ). value_at_place s.inputs s.schedule.courses place n u within is.each_course only in
          let idle = λ (b : ℕ) (l : t - 1 < b) (w : b ≤ t). let same_time : b ≡ t = omega (arith, l, w, later) in ap (is_busy (course_in s.schedule place)) same_time ∙ e in
          let stays = elements_stay (course_in s.schedule place) 0 (t - 1) t n (omega arith) idle (input_at s.inputs place).elements in
          absurd (still s n edge t (value (t - 1) ∙ ap (λ o. value_or o U) (sym stays) ∙ sym (value t)) active)

  -- up to a later time, if the course of that input is never busy in between at one of the times
  pub no_meeting : IsStimulus s → (place : ℕ) → place < length s.inputs → ((q : ℕ) → q < length s.inputs → Contains (nets_of (input_at s.inputs q)) n → place ≡ q)
      → (course : Course) → course_in s.schedule place ≡ course → (times : BTreeSet ℕ) (now next : ℕ)
      → (0 < t → t ≤ now → HasEdgeAt s n edge t → IsAmong times t → ⊥) → (now < t → t < next → IsTrue (is_busy course t) → IsAmong times t → ⊥)
      → 0 < t → t < next → HasEdgeAt s n edge t → IsAmong times t → ⊥
  no_meeting is place within only course its times now next so_far none later before active among =
      ⊎_elim (λ after. none after before (subst (λ k. IsTrue (is_busy k t)) its (edge_is_busy is place later within only active)) among)
      (λ early. so_far later early active among) (cases_lt now t)

-- one clock more
pub searched_more : (s : StimulusView) (clocks : List (ℕ × Edge)) (times : BTreeSet ℕ) (last i past next : ℕ) → i < length clocks → HasSearched s clocks times last i past → 0 < next → next ≤ past
    → (next < past → IsAmong times next × IsActiveAt s clocks next i) → ((t : ℕ) → 0 < t → t < next → IsActiveAt s clocks t i → IsAmong times t → ⊥)
    → HasSearched s clocks times last (i + 1) next
searched_more s clocks times last i past next within so_far later le edge none = record {
  some = later;
  within = omega (arith, le, so_far.within);
  race = λ in_time.
      ⊎_elim (λ e. subst (λ t. IsAmong times t × ((k : ℕ) × (k < length clocks) × IsActiveAt s clocks t k)) (sym e) (so_far.race (omega (arith, in_time, e))))
      (λ less. let found = edge less in (found.0, (i, within, found.1))) (eq-or-lt_of_le le);
  none = λ t k some less before.
      ⊎_elim (λ early. so_far.none t k some (omega (arith, less, le)) early)
      (λ last. let e : k ≡ i = omega (arith, last, before) in subst (λ j. IsActiveAt s clocks t j → IsAmong times t → ⊥) (sym e) (none t some less)) (cases_lt k i);
}
