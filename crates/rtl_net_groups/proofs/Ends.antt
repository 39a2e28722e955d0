-- Where groups begin and end.
use Rattle.std.proofs.Common.{◌≡◌, ◌↔◌, ℕ, ◌+◌, ◌<◌, ◌≤◌, List, length, get_or, ap, subst, arith, ◌⊎◌, inl, inr}
use Rattle.std.proofs.lemmas.Bool.{cases_lt}
use Rattle.rtl_net_groups.specs.Groups.{AreRuns}

module _ (of_net first : List ℕ) (R : AreRuns of_net first) (g : ℕ) (there : g < length first) where
  from_begin : (n : ℕ) → n < length of_net → get_or of_net n 0 ≡ g → get_or first g 0 ≤ n
  from_begin n l is = subst (λ (h : ℕ). get_or first h 0 ≤ n) is (R.is_first n l)

  behind_begin : (n : ℕ) → n < length of_net → get_or first g 0 ≤ n → g ≤ get_or of_net n 0
  behind_begin n l h =
      let rises = R.in_order (get_or first g 0) n h l in
      let (_, is) = R.begins g there in
      omega (arith, rises, is)

  -- where a group follows it
  module _ (next : g + 1 < length first) where
    before_next : (n : ℕ) → n < length of_net → get_or of_net n 0 ≡ g → n < get_or first (g + 1) 0
    before_next n l is = by (cases_lt n (get_or first (g + 1) 0))
      where
        by : (n < get_or first (g + 1) 0) ⊎ (get_or first (g + 1) 0 ≤ n) → n < get_or first (g + 1) 0
        by (inl h) = h
        by (inr h) =
            let rises = R.in_order (get_or first (g + 1) 0) n h l in
            let (_, begins) = R.begins (g + 1) next in
            absurd (omega (arith, rises, begins, is))

    not_behind : (n : ℕ) → n < length of_net → n < get_or first (g + 1) 0 → get_or of_net n 0 ≤ g
    not_behind n l h = by (cases_lt g (get_or of_net n 0))
      where
        by : (g < get_or of_net n 0) ⊎ (get_or of_net n 0 ≤ g) → get_or of_net n 0 ≤ g
        by (inr le) = le
        by (inl more) =
            let from = R.is_first n l in
            let (within, begins) = R.begins (g + 1) next in
            let (_, own) = R.begins (get_or of_net n 0) (R.there n l) in
            let rises = R.in_order (get_or first (get_or of_net n 0) 0) (get_or first (g + 1) 0) (omega (arith, from, h)) within in
            let same : get_or of_net n 0 ≡ g + 1 = omega (arith, rises, own, begins, more) in
            let at = ap (λ (k : ℕ). get_or first k 0) same in
            absurd (omega (arith, at, from, h))

    pub up_to_next : (n : ℕ) → n < length of_net → (get_or of_net n 0 ≡ g) ↔ ((get_or first g 0 ≤ n) × (n < get_or first (g + 1) 0))
    up_to_next n l = (λ is. (from_begin n l is, before_next n l is), λ h. (let low = behind_begin n l h.0 in let high = not_behind n l h.1 in omega (arith, low, high)))

    pub some_before_next : get_or first g 0 < get_or first (g + 1) 0
    some_before_next = let (within, is) = R.begins g there in before_next (get_or first g 0) within is

  -- where none does
  pub up_to_end : length first ≤ g + 1 → (n : ℕ) → n < length of_net → (get_or of_net n 0 ≡ g) ↔ ((get_or first g 0 ≤ n) × (n < length of_net))
  up_to_end last n l = (λ is. (from_begin n l is, l), λ h. (let low = behind_begin n l h.0 in let high = R.there n l in omega (arith, low, high, last)))
