-- Lists of clocks that rise from each pair to the next.
use Rattle.std.proofs.Common.{◌≡◌, ℕ, zero, suc, ◌+◌, ◌-◌, ◌<◌, ◌≤◌, List, length, get_or, ap, subst, ◌∙◌, arith, ◌⊎◌, inl, inr}
use Rattle.std.proofs.lemmas.Bool.{cases_lt}
use Rattle.std.proofs.lemmas.List.{get_or_default}
use Rattle.rtl_model.specs.basics.Lists.{IsLess, RisesBy}
use Rattle.rtl_model.specs.simulation.Netlist.{Edge}
use Rattle.rtl_model.specs.simulation.Report.{clock_key}

-- one number more
pub next_or : (P : ℕ → Type 0) (p : ℕ) → ((q : ℕ) → q < p → P q) → P p → (q : ℕ) → q < p + 1 → P q
next_or P p before here q l = go (cases_lt q p)
  where
    go : (q < p) ⊎ (p ≤ q) → P q
    go (inl m) = before q m
    go (inr m) = let e : p ≡ q = omega (arith, l, m) in subst P e here

less_on : (x y z : ℕ × Edge) → IsLess (clock_key x) (clock_key y) → IsLess (clock_key y) (clock_key z) → IsLess (clock_key x) (clock_key z)
less_on x y z (inl a) (inl b) = inl (omega (arith, a, b))
less_on x y z (inl a) (inr (e, h)) = inl (omega (arith, a, e))
less_on x y z (inr (e, h)) (inl b) = inl (omega (arith, b, e))
less_on x y z (inr (e, inl a)) (inr (f, inl b)) = inr (e ∙ f, inl (omega (arith, a, b)))
less_on x y z (inr (e, inl a)) (inr (f, inr (g, h))) = absurd h
less_on x y z (inr (e, inr (g, h))) (inr (f, k)) = absurd h

pub rises_on : (xs : List (ℕ × Edge)) (k : ℕ) (d1 d2 : ℕ × Edge) → 1 ≤ k → k < length xs → IsLess (clock_key (get_or xs (k - 1) d1)) (clock_key (get_or xs k d2))
    → ((j : ℕ) (d : ℕ × Edge) → suc j < k → IsLess (clock_key (get_or xs j d)) (clock_key (get_or xs (suc j) d)))
    → (j : ℕ) (d : ℕ × Edge) → suc j < k + 1 → IsLess (clock_key (get_or xs j d)) (clock_key (get_or xs (suc j) d))
rises_on xs k d1 d2 one there less before j d l = go (cases_lt (suc j) k)
  where
    go : (suc j < k) ⊎ (k ≤ suc j) → IsLess (clock_key (get_or xs j d)) (clock_key (get_or xs (suc j) d))
    go (inl m) = before j d m
    go (inr m) =
        let e : k ≡ suc j = omega (arith, l, m) in
        let f : k - 1 ≡ j = omega (arith, e) in
        let in_front : j < length xs = omega (arith, e, there) in
        let behind : suc j < length xs = omega (arith, e, there) in
        let a : get_or xs (k - 1) d1 ≡ get_or xs j d = ap (λ (i : ℕ). get_or xs i d1) f ∙ get_or_default xs j d1 d in_front in
        let b : get_or xs k d2 ≡ get_or xs (suc j) d = ap (λ (i : ℕ). get_or xs i d2) e ∙ get_or_default xs (suc j) d2 d behind in
        subst (λ (x : ℕ × Edge). IsLess (clock_key x) (clock_key (get_or xs (suc j) d))) a (subst (λ (y : ℕ × Edge). IsLess (clock_key (get_or xs (k - 1) d1)) (clock_key y)) b less)

pub all_rise : (xs : List (ℕ × Edge)) → ((j : ℕ) (d : ℕ × Edge) → suc j < length xs → IsLess (clock_key (get_or xs j d)) (clock_key (get_or xs (suc j) d))) → RisesBy clock_key xs
all_rise xs next i zero d l m = absurd (omega (arith, l))
all_rise xs next i (suc j) d l m = go (λ h. all_rise xs next i j d h (omega (arith, m))) (cases_lt i j)
  where
    go : (i < j → IsLess (clock_key (get_or xs i d)) (clock_key (get_or xs j d))) → (i < j) ⊎ (j ≤ i) → IsLess (clock_key (get_or xs i d)) (clock_key (get_or xs (suc j) d))
    go before (inl h) = less_on (get_or xs i d) (get_or xs j d) (get_or xs (suc j) d) (before h) (next j d m)
    go before (inr h) = let e : j ≡ i = omega (arith, l, h) in subst (λ (k : ℕ). IsLess (clock_key (get_or xs k d)) (clock_key (get_or xs (suc j) d))) e (next j d m)
