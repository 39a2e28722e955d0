-- The greatest number in a list of options.
use Rattle.std.proofs.Common.{◌≡◌, ◌≢◌, ℕ, zero, suc, ◌<◌, ◌≤◌, cond, List, [], ◌∷◌, get_or, Option, Some, None, refl, arith, ◌⊎◌, inl, inr, ltb}
use Rattle.std.proofs.lemmas.Bool.{cases_lt, lt-ltb, le-ltb}

pub greatest_of : List (Option ℕ) → ℕ
greatest_of [] = 0
greatest_of (None ∷ xs) = greatest_of xs
greatest_of (Some v ∷ xs) = cond (ltb v (greatest_of xs)) (greatest_of xs) v

pub none_above : (xs : List (Option ℕ)) (k v : ℕ) → get_or xs k None ≡ Some v → v ≤ greatest_of xs
unfolding greatest_of
none_above (None ∷ xs) (suc k) v e = none_above xs k v e
none_above (Some w ∷ xs) zero v e = go (cases_lt w (greatest_of xs))
  where
    go : (w < greatest_of xs) ⊎ (greatest_of xs ≤ w) → v ≤ cond (ltb w (greatest_of xs)) (greatest_of xs) w
    go (inl l) = let f : w ≡ v = cc in rw (lt-ltb w (greatest_of xs) l) (omega arith)
    go (inr l) = let f : w ≡ v = cc in rw (le-ltb w (greatest_of xs) l) (omega arith)
none_above (Some w ∷ xs) (suc k) v e = go (none_above xs k v e) (cases_lt w (greatest_of xs))
  where
    go : v ≤ greatest_of xs → (w < greatest_of xs) ⊎ (greatest_of xs ≤ w) → v ≤ cond (ltb w (greatest_of xs)) (greatest_of xs) w
    go h (inl l) = rw (lt-ltb w (greatest_of xs) l) h
    go h (inr l) = rw (le-ltb w (greatest_of xs) l) (omega arith)
none_above _ _ v e = cc

pub met : (xs : List (Option ℕ)) → greatest_of xs ≢ 0 → (k : ℕ) × (get_or xs k None ≡ Some (greatest_of xs))
unfolding greatest_of
met [] h = absurd (h refl)
met (None ∷ xs) h = let (k, e) = met xs h in (suc k, e)
met (Some w ∷ xs) h = go (met xs) (cases_lt w (greatest_of xs))
  where
    go : (greatest_of xs ≢ 0 → (k : ℕ) × (get_or xs k None ≡ Some (greatest_of xs))) → (w < greatest_of xs) ⊎ (greatest_of xs ≤ w)
        → (k : ℕ) × (get_or (Some w ∷ xs) k None ≡ Some (cond (ltb w (greatest_of xs)) (greatest_of xs) w))
    go more (inl l) = rw (lt-ltb w (greatest_of xs) l) (let (k, e) = more (λ z. absurd (omega arith)) in (suc k, e))
    go more (inr l) = rw (le-ltb w (greatest_of xs) l) (0, refl)
