-- The times at which no input has a race, one input more at a time.
use Rattle.std.proofs.Common.{◌≡◌, ℕ, ◌+◌, ◌<◌, ◌≤◌, false, List, length, take, ⊎_elim, sym, subst, ◌∙◌, arith}
use Rattle.std.specs.Prelude.{Contains, All, slice_index}
use Rattle.std.proofs.Math.Nat.{eq-or-lt_of_le}
use Rattle.std.proofs.lemmas.Bool.{cases_lt}
use Rattle.std.proofs.lemmas.List.{get_or_default}
use Rattle.std.proofs.lemmas.List.Elements.{Contains-append_cases, Contains-get_or, All-contains}
use Rattle.rtl_model.specs.simulation.Netlist.{Edge}
use Rattle.rtl_stim_lines.specs.Inputs.{input_at}
use Rattle.rtl_stim_lines.specs.Courses.{is_busy}
use Rattle.rtl_stim_lines.specs.Times.{nets_of, all_nets}
use Rattle.rtl_stim_lines.specs.View.{course_in}
use Rattle.rtl_stim.specs.Stimuli.{StimulusView}
use Rattle.rtl_stim.specs.Moments.{IsStimulus}
use Rattle.rtl_stim.specs.Quiet.{IsNoClock, IsActiveAt, IsChangedAt, HasNoneHere, HasPassed, Changes}
use Rattle.rtl_stim.proofs.Places.{among_all}
use Rattle.rtl_stim.proofs.Quieting.{nets_more, place_quiet}

module _ (s : StimulusView) (clocks : List (ℕ × Edge)) where
  -- ---- no race, by the nets

  none_of : (nets : List ℕ) (t : ℕ) → HasNoneHere s clocks nets t → (n k : ℕ) → Contains nets n → k < length clocks → IsActiveAt s clocks t k → IsChangedAt s clocks t n → ⊥
  none_of nets t none n k there clock active changed =
      let is : slice_index nets there.0 ≡ n = get_or_default nets there.0 0 n there.1 ∙ there.2 in
      none k there.0 clock active there.1 (subst (IsChangedAt s clocks t) (sym is) changed)

  all_of : (nets : List ℕ) (t : ℕ) → ((n k : ℕ) → Contains nets n → k < length clocks → IsActiveAt s clocks t k → IsChangedAt s clocks t n → ⊥) → HasNoneHere s clocks nets t
  all_of nets t none k j clock active there changed = none (slice_index nets j) k (Contains-get_or nets j 0 there) clock active changed

  pub some_race : (nets : List ℕ) (t k : ℕ) → k < length clocks → IsActiveAt s clocks t k → Changes s clocks nets t → HasNoneHere s clocks nets t → ⊥
  some_race nets t k clock active changes none = none_of nets t none changes.0 k changes.1 clock active changes.2

  pub none_if_none_changes : (nets : List ℕ) (t : ℕ) → (Changes s clocks nets t → ⊥) → HasNoneHere s clocks nets t
  none_if_none_changes nets t none = all_of nets t (λ n k there clock active changed. none (n, there, changed))

  none_more : (i t : ℕ) → i < length s.inputs → HasNoneHere s clocks (all_nets (take i s.inputs)) t → HasNoneHere s clocks (nets_of (input_at s.inputs i)) t
      → HasNoneHere s clocks (all_nets (take (i + 1) s.inputs)) t
  none_more i t within before here =
      all_of (all_nets (take (i + 1) s.inputs)) t (λ n k there clock active changed.
      ⊎_elim (λ old. none_of (all_nets (take i s.inputs)) t before n k old clock active changed)
      (λ new. none_of (nets_of (input_at s.inputs i)) t here n k new clock active changed)
      (Contains-append_cases (all_nets (take i s.inputs)) (nets_of (input_at s.inputs i)) n (subst (λ ns. Contains ns n) (nets_more s.inputs i within) there)))

  pub none_of_clocks : (nets : List ℕ) (t : ℕ) → All (λ n. IsNoClock clocks n → ⊥) nets → HasNoneHere s clocks nets t
  none_of_clocks nets t clocks_all = all_of nets t (λ n k there clock active changed. All-contains (λ m. IsNoClock clocks m → ⊥) nets n clocks_all there changed.0)

  -- up to the next time at which an input is busy
  pub none_until : IsStimulus s → (place now next : ℕ) → place < length s.inputs → ((t : ℕ) → 0 < t → t ≤ now → HasNoneHere s clocks (nets_of (input_at s.inputs place)) t)
      → ((b : ℕ) → now < b → b < next → is_busy (course_in s.schedule place) b ≡ false) → (t : ℕ) → 0 < t → t < next → HasNoneHere s clocks (nets_of (input_at s.inputs place)) t
  none_until is place now next within so_far idle t some before =
      ⊎_elim
      (λ after. all_of (nets_of (input_at s.inputs place)) t (λ n k there clock active changed. changed.1 (place_quiet s clocks is place t within some (idle t after before) n there changed.0)))
      (λ past. so_far t some past)
      (cases_lt now t)

  -- ---- one input more

  pub passed_more : (i past next : ℕ) → i < length s.inputs → HasPassed s clocks i past → 0 < next → next ≤ past
      → (next < past → HasNoneHere s clocks (nets_of (input_at s.inputs i)) next → ⊥) → ((t : ℕ) → 0 < t → t < next → HasNoneHere s clocks (nets_of (input_at s.inputs i)) t)
      → HasPassed s clocks (i + 1) next
  passed_more i past next within so_far later le race none = record {
    some = later;
    within = omega (arith, le, so_far.within);
    race = λ in_time here.
        ⊎_elim (λ e. so_far.race (omega (arith, in_time, e)) (subst (HasNoneHere s clocks (all_nets s.inputs)) e here))
        (λ less. race less (all_of (nets_of (input_at s.inputs i)) next (λ n k there clock active changed. none_of (all_nets s.inputs) next here n k (among_all s.inputs i n within there) clock active changed)))
        (eq-or-lt_of_le le);
    none = λ t some less. none_more i t within (so_far.none t some (omega (arith, less, le))) (none t some less);
  }
