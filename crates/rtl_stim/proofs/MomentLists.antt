-- The numbers up to a stop that pass a test, as they rise.
use Rattle.std.proofs.Common.{◌≡◌, ℕ, suc, ◌+◌, ◌<◌, ◌≤◌, Bool, true, false, cond, List, ◌∷◌, length, get_or, filter, ⊎_elim, sym, ap, subst, ◌∙◌, arith}
use Rattle.std.specs.Prelude.{Contains, AllPairs}
use Rattle.std.specs.List.{range_with_len}
use Rattle.std.proofs.Math.Nat.{eq-or-lt_of_le}
use Rattle.std.proofs.lemmas.Bool.{cases_lt}
use Rattle.std.proofs.lemmas.List.Elements.{Contains-get_or}
use Rattle.std.proofs.lemmas.List.FromFn.{length-range_with_len, get_or-range_with_len}
use Rattle.std.proofs.lemmas.List.Kept.{AllPairs-filter}
use Rattle.std.proofs.lemmas.Option.{slice_get-get_or, get_or_from_slice_get}
use Rattle.rtl_stim.proofs.Awaiting.{in_range, range_below}
use Rattle.rtl_stim.proofs.Due.{filtered, kept_in}

pub any_default : (xs : List ℕ) (i d e : ℕ) → i < length xs → get_or xs i e ≡ get_or xs i d
any_default xs i d e within = get_or_from_slice_get xs i (get_or xs i d) e (slice_get-get_or xs i d within)

module _ (p : ℕ → Bool) (stop : ℕ) where
  abbrev pub times : List ℕ
  times = filter p (range_with_len 0 (suc stop))

  pub rise : AllPairs (λ a b. a < b) times
  rise = AllPairs-filter (λ a b. a < b) p (range_with_len 0 (suc stop)) (λ i j d before within.
      let long = length-range_with_len 0 (suc stop) in
      let a = get_or-range_with_len 0 (suc stop) i d (omega (arith, before, within, long)) in
      let b = get_or-range_with_len 0 (suc stop) j d (omega (arith, within, long)) in
      omega (arith, a, b, before))

  pub member : (i : ℕ) → i < length times → (get_or times i 0 ≤ stop) × (p (get_or times i 0) ≡ true)
  member i within =
      let h = filtered p (range_with_len 0 (suc stop)) (get_or times i 0) (Contains-get_or times i 0 within) in
      let below = range_below (suc stop) (get_or times i 0) h.0 in
      (omega (arith, below), h.1)

  pub next_at : (m now t : ℕ) → m < length times → get_or times m 0 ≡ now → now < t → t ≤ stop → p t ≡ true → ((b : ℕ) → now < b → b < t → p b ≡ false)
      → (suc m < length times) × (get_or times (suc m) 0 ≡ t)
  next_at m now t there at later within passes none =
      let found : Contains times t = kept_in p (range_with_len 0 (suc stop)) t (in_range (suc stop) t (omega arith)) passes in
      let j = found.0 in
      let is : get_or times j 0 ≡ t = any_default times j t 0 found.1 ∙ found.2 in
      let before : m < j =
      ⊎_elim (λ h. h)
      (λ not_before. ⊎_elim (λ e. let same = ap (λ k. get_or times k 0) e in omega (arith, same, is, at, later)) (λ less. let h = rise j m 0 less there in omega (arith, h, is, at, later)) (eq-or-lt_of_le not_before))
      (cases_lt m j) in
      let more : suc m < length times = omega (arith, before, found.1) in
      let u = get_or times (suc m) 0 in
      let after : now < u = let h = rise m (suc m) 0 (omega arith) more in omega (arith, h, at) in
      let on = member (suc m) more in (
        more,
        ⊎_elim (λ e. ap (λ k. get_or times k 0) e ∙ is) (λ less. let h = rise (suc m) j 0 less found.1 in let off = none u after (omega (arith, h, is)) in let passing = on.1 in cc)
            (eq-or-lt_of_le (let le : suc m ≤ j = omega (arith, before) in le)),
      )

  pub last_at : (m now : ℕ) → m < length times → get_or times m 0 ≡ now → ((b : ℕ) → now < b → b ≤ stop → p b ≡ false) → suc m ≡ length times
  last_at m now there at none =
      ⊎_elim (λ more.
      let after : now < get_or times (suc m) 0 = let h = rise m (suc m) 0 (omega arith) more in omega (arith, h, at) in
      let on = member (suc m) more in
      let passing = on.1 in
      let off = none (get_or times (suc m) 0) after on.0 in cc)
      (λ all. omega (arith, all, there)) (cases_lt (suc m) (length times))

  pub first_at : p 0 ≡ true → (0 < length times) × (get_or times 0 0 ≡ 0)
  first_at passes =
      let rest = range_with_len (0 + 1) stop in
      let is : times ≡ 0 ∷ filter p rest = ap (λ b. cond b (0 ∷ filter p rest) (filter p rest)) passes in
      (subst (λ ts. 0 < length ts) (sym is) (omega arith), ap (λ ts. get_or ts 0 0) is)
