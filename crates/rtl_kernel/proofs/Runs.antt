-- The values of a part, as a test for a difference tells of them.
use Rattle.std.proofs.Common.{◌≡◌, ℕ, ◌+◌, ◌-◌, ◌<◌, ◌≤◌, Bool, true, false, not, Decides, List, length, get_or, refl, sym, ap, ◌∙◌, arith}
use Rattle.std.specs.List.{between}
use Rattle.std.proofs.lemmas.List.Edits.{get_or-between, length-between}
use Rattle.rtl_net_groups.proofs.Writing.{first_difference}

-- what a test for a difference says
pub differing : {P : Type 0} (b r : Bool) → Decides b P → r ≡ not b → r ≡ true → P → ⊥
differing b r D is told p = let h : true ≡ false = sym told ∙ is ∙ ap not (D.1 p) in absurd cc

pub alike : {P : Type 0} (b r : Bool) → Decides b P → r ≡ not b → r ≡ false → P
alike true r D is told = D.0 refl
alike false r D is told = let h : true ≡ false = sym is ∙ told in absurd cc

-- the values of a part
pub part_differs : (xs ys : List ℕ) (first end : ℕ) → end ≤ length xs → end ≤ length ys → (between first end xs ≡ between first end ys → ⊥)
    → (n : ℕ) × (first ≤ n) × (n < end) × (get_or xs n 0 ≡ get_or ys n 0 → ⊥)
part_differs xs ys first end in_xs in_ys differ =
    let long = length-between xs first end in_xs in
    let (k, l, other) = first_difference (between first end xs) (between first end ys) (long ∙ sym (length-between ys first end in_ys)) differ in
    let within : first + k < end = omega (arith, l, long) in
    (first + k, omega arith, within, λ e. other (get_or-between xs first end k 0 within ∙ e ∙ sym (get_or-between ys first end k 0 within)))

pub part_same : (xs ys : List ℕ) (first end n : ℕ) → between first end xs ≡ between first end ys → first ≤ n → n < end → get_or xs n 0 ≡ get_or ys n 0
part_same xs ys first end n same low high =
    let at : n ≡ first + (n - first) = omega (arith, low) in
    let within : first + (n - first) < end = omega (arith, low, high) in
    ap (λ (q : ℕ). get_or xs q 0) at ∙ sym (get_or-between xs first end (n - first) 0 within)
    ∙ ap (λ (zs : List ℕ). get_or zs (n - first) 0) same ∙ get_or-between ys first end (n - first) 0 within ∙ ap (λ (q : ℕ). get_or ys q 0) (sym at)
