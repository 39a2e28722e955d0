-- Between two moments nothing changes.
use Rattle.std.proofs.Common.{◌≡◌, ℕ, suc, zero, ◌-◌, ◌<◌, ◌≤◌, Bool, true, false, cond, List, [], ◌∷◌, length, min, pred, Some, ⊎_elim, inl, inr, refl, sym, ap, subst, ◌∙◌, arith}
use Rattle.std.specs.Prelude.{◌⊎◌, Contains, ◌||◌, ◌==◌, slice_index}
use Rattle.std.specs.List.{list_any, range_with_len}
use Rattle.std.proofs.lemmas.Bool.{cases_lt}
use Rattle.std.proofs.Math.Nat.{eq-or-lt_of_le}
use Rattle.vhdl_values.specs.Scalar.{code_of}
use Rattle.rtl_model.specs.simulation.Netlist.{Netlist}
use Rattle.rtl_model.specs.simulation.Races.{IsRace, IsRaceAt}
use Rattle.rtl_stim_lines.specs.Inputs.{Input, Element}
use Rattle.rtl_stim_lines.specs.Courses.{Course, course_value, is_busy}
use Rattle.rtl_stim_lines.specs.Reading.{Schedule}
use Rattle.rtl_stim_lines.specs.Times.{element_value, value_or, value_of, is_moment}
use Rattle.rtl_stim.specs.Stimuli.{StimulusView, moments, inputs_at, code_at}
use Rattle.rtl_stim.specs.Edges.{ChangesAtTime, HasRaceAtTime, TimesShowRaces}
use Rattle.rtl_stim.proofs.Unchanged.{same_value}
use Rattle.rtl_stim.proofs.Awaiting.{in_range}
use Rattle.rtl_stim.proofs.Due.{kept_in}
use Rattle.rtl_stim.proofs.MomentLists.{any_default, rise, member, first_at}

-- ---- values that stay

none_head : {X : Type 0} (p : X → Bool) (x : X) (xs : List X) → list_any p (x ∷ xs) ≡ false → (p x ≡ false) × (list_any p xs ≡ false)
none_head p x xs h = by (p x) (list_any p xs) refl refl h
  where
    by : (a b : Bool) → p x ≡ a → list_any p xs ≡ b → (a || b) ≡ false → (p x ≡ false) × (list_any p xs ≡ false)
    by true b e f h = cc
    by false true e f h = cc
    by false false e f h = (e, f)

-- no course is busy after now, up to t
abbrev IsIdle : List Course → (now t : ℕ) → Type 0
IsIdle courses now t = (b : ℕ) → now < b → b ≤ t → list_any (λ course. is_busy course b) courses ≡ false

pub elements_stay : (course : Course) (place now t n : ℕ) → now ≤ t → ((b : ℕ) → now < b → b ≤ t → is_busy course b ≡ false) → (es : List Element)
    → element_value course place es n t ≡ element_value course place es n now
elements_stay course place now t n order idle [] = refl
elements_stay course place now t n order idle (e ∷ es) =
    ap (λ v. cond (e.net == n) (Some v) (element_value course (suc place) es n t)) (same_value course place e.start now t order idle)
    ∙ ap (λ o. cond (e.net == n) (Some (course_value course place e.start now)) o) (elements_stay course (suc place) now t n order idle es)

values_stay : (inputs : List Input) (courses : List Course) (now t n : ℕ) → now ≤ t → IsIdle courses now t → value_of inputs courses n t ≡ value_of inputs courses n now
values_stay [] courses now t n order idle = refl
values_stay (input ∷ inputs) [] now t n order idle = refl
values_stay (input ∷ inputs) (course ∷ courses) now t n order idle =
    let parts = λ (b : ℕ) (l : now < b) (s : b ≤ t). none_head (λ course. is_busy course b) course courses (idle b l s) in
    ap (λ o. value_or o (value_of inputs courses n t)) (elements_stay course 0 now t n order (λ b l s. (parts b l s).0) input.elements)
    ∙ ap (λ v. value_or (element_value course 0 input.elements n now) v) (values_stay inputs courses now t n order (λ b l s. (parts b l s).1))

not_moment : (schedule : Schedule) (b : ℕ) → is_moment schedule b ≡ false → list_any (λ course. is_busy course b) schedule.courses ≡ false
not_moment schedule b h = by (b == 0) (list_any (λ course. is_busy course b) schedule.courses) refl h
  where
    by : (a r : Bool) → list_any (λ course. is_busy course b) schedule.courses ≡ r → (a || r) ≡ false → list_any (λ course. is_busy course b) schedule.courses ≡ false
    by true r e h = cc
    by false r e h = e ∙ h

module _ (s : StimulusView) where
  codes_stay : (now t : ℕ) → now ≤ t → ((b : ℕ) → now < b → b ≤ t → is_moment s.schedule b ≡ false) → code_at s t ≡ code_at s now
  codes_stay now t order none =
      let h = λ (n : ℕ). ap code_of (values_stay s.inputs s.schedule.courses now t n order (λ b l w. not_moment s.schedule b (none b l w))) in
      λ i n. h n i

  at_time : (m : ℕ) → m < length (moments s) → inputs_at s m ≡ code_at s (slice_index (moments s) m)
  at_time m there = let clamp : min m (pred (length (moments s))) ≡ m = omega (arith, there) in λ i n. code_at s (slice_index (moments s) (clamp i)) n

  -- ---- times and moments

  place_of_time : (t : ℕ) → t ≤ s.schedule.stop → is_moment s.schedule t ≡ true → (j : ℕ) × (j < length (moments s)) × (slice_index (moments s) j ≡ t)
  place_of_time t within is =
      let found : Contains (moments s) t = kept_in (is_moment s.schedule) (range_with_len 0 (suc s.schedule.stop)) t (in_range (suc s.schedule.stop) t (omega arith)) is in
      (found.0, found.1, any_default (moments s) found.0 t 0 found.1 ∙ found.2)

  -- between two moments there is none
  none_inside : (m b : ℕ) → suc m < length (moments s) → slice_index (moments s) m < b → b < slice_index (moments s) (suc m) → is_moment s.schedule b ≡ false
  none_inside m b there after before = by (is_moment s.schedule b) refl
    where
      by : (r : Bool) → is_moment s.schedule b ≡ r → r ≡ false
      by true is =
          let sooner = (member (is_moment s.schedule) s.schedule.stop (suc m) there).0 in
          let at = place_of_time b (omega (arith, sooner, before)) is in
          let up = rise (is_moment s.schedule) s.schedule.stop in
          absurd (⊎_elim
          (λ low. ⊎_elim (λ e. let same = ap (λ k. slice_index (moments s) k) e in omega (arith, same, at.2, after))
          (λ less. let h = up at.0 m 0 less (omega (arith, there)) in omega (arith, h, at.2, after)) (eq-or-lt_of_le (let le : at.0 ≤ m = omega (arith, low) in le)))
          (λ high. ⊎_elim (λ e. let same = ap (λ k. slice_index (moments s) k) e in omega (arith, same, at.2, before))
          (λ less. let h = up (suc m) at.0 0 less at.1 in omega (arith, h, at.2, before)) (eq-or-lt_of_le high))
          (cases_lt at.0 (suc m)))
      by false is = refl

  pub each_moment : (m : ℕ) → suc m < length (moments s) → ChangesAtTime s m
  each_moment m there =
      let now = slice_index (moments s) m in
      let t = slice_index (moments s) (suc m) in
      let up : now < t = rise (is_moment s.schedule) s.schedule.stop m (suc m) 0 (omega arith) there in
      record {
        later = omega (arith, up);
        within = (member (is_moment s.schedule) s.schedule.stop (suc m) there).0;
        before = at_time m (omega (arith, there)) ∙ sym (codes_stay now (t - 1) (omega (arith, up)) (λ b l w. none_inside m b there l (omega (arith, w, up))));
        now = at_time (suc m) there;
      }

  pub other_times : (t : ℕ) → 0 < t → t ≤ s.schedule.stop → (code_at s (t - 1) ≡ code_at s t) ⊎ ((m : ℕ) × (suc m < length (moments s)) × (slice_index (moments s) (suc m) ≡ t))
  other_times t later within = by (is_moment s.schedule t) refl
    where
      previous : (j : ℕ) → j < length (moments s) → slice_index (moments s) j ≡ t → (m : ℕ) × (suc m < length (moments s)) × (slice_index (moments s) (suc m) ≡ t)
      previous zero there at = absurd (let first = (first_at (is_moment s.schedule) s.schedule.stop refl).1 in omega (arith, first, at, later))
      previous (suc m) there at = (m, there, at)

      by : (r : Bool) → is_moment s.schedule t ≡ r → (code_at s (t - 1) ≡ code_at s t) ⊎ ((m : ℕ) × (suc m < length (moments s)) × (slice_index (moments s) (suc m) ≡ t))
      by true is = let at = place_of_time t within is in inr (previous at.0 at.1 at.2)
      by false is = inl (sym (codes_stay (t - 1) t (omega arith) (λ b l w. let e : b ≡ t = omega (arith, l, w, later) in ap (is_moment s.schedule) e ∙ is)))

  pub race_has_time : (net : Netlist) (m : ℕ) → suc m < length (moments s) → IsRaceAt net (inputs_at s) (suc m) → HasRaceAtTime net s (slice_index (moments s) (suc m))
  race_has_time net m there race =
      let at = each_moment m there in
      record { later = at.later; within = at.within; race = subst (λ v. IsRace net v (code_at s (slice_index (moments s) (suc m)))) at.before (subst (IsRace net (inputs_at s m)) at.now race) }

  no_change : (net : Netlist) (v w : ℕ → ℕ) → v ≡ w → IsRace net v w → ⊥
  no_change net v w same race = race.changes (ap (λ f. f race.input) same)

  time_has_race : (net : Netlist) (t : ℕ) → HasRaceAtTime net s t → (m : ℕ) × (suc m < length (moments s)) × (slice_index (moments s) (suc m) ≡ t) × IsRaceAt net (inputs_at s) (suc m)
  time_has_race net t h =
      ⊎_elim (λ same. absurd (no_change net (code_at s (t - 1)) (code_at s t) same h.race))
      (λ at.
      let c = each_moment at.0 at.1 in
      let before = c.before ∙ ap (λ u. code_at s (u - 1)) at.2 in
      let now = c.now ∙ ap (code_at s) at.2 in
      (at.0, at.1, at.2, subst (λ v. IsRace net v (inputs_at s (suc at.0))) (sym before) (subst (IsRace net (code_at s (t - 1))) (sym now) h.race)))
      (other_times t h.later h.within)

  none_at : (net : Netlist) → ((t : ℕ) → HasRaceAtTime net s t → ⊥) → (m : ℕ) → IsRaceAt net (inputs_at s) m → ⊥
  none_at net none zero race = race
  none_at net none (suc m) race =
      ⊎_elim (λ there. none (slice_index (moments s) (suc m)) (race_has_time net m there race))
      (λ past.
      let some = (first_at (is_moment s.schedule) s.schedule.stop refl).0 in
      let a : min m (pred (length (moments s))) ≡ pred (length (moments s)) = omega (arith, past) in
      let b : min (suc m) (pred (length (moments s))) ≡ pred (length (moments s)) = omega (arith, past) in
      let same : inputs_at s m ≡ inputs_at s (suc m) = λ i n. code_at s (slice_index (moments s) ((a ∙ sym b) i)) n in
      no_change net (inputs_at s m) (inputs_at s (suc m)) same race)
      (cases_lt (suc m) (length (moments s)))

pub times_show_races : TimesShowRaces
times_show_races s = record {
  each_moment = each_moment s;
  other_times = other_times s;
  race_has_time = race_has_time s;
  time_has_race = time_has_race s;
  none = λ net none last m within race. none_at s net none m race;
}
