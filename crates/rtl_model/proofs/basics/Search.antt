-- What can be searched, can be decided.
use Rattle.std.proofs.Common.{◌≡◌, ℕ, zero, suc, ◌<◌, List, length, get_or, arith, ◌⊎◌, inl, inr, subst, Contains}
use Rattle.std.proofs.lemmas.Bool.{cases_eq}

-- whether some number below n has a property that can be decided
pub search_below : (P : ℕ → Type 0) → ((k : ℕ) → P k ⊎ (P k → ⊥)) → (n : ℕ) → ((k : ℕ) × (k < n) × P k) ⊎ ((k : ℕ) → k < n → P k → ⊥)
search_below P d zero = inr (λ k l h. absurd (omega arith))
search_below P d (suc n) = go (search_below P d n) (d n)
  where
    go : ((k : ℕ) × (k < n) × P k) ⊎ ((k : ℕ) → k < n → P k → ⊥) → P n ⊎ (P n → ⊥) → ((k : ℕ) × (k < suc n) × P k) ⊎ ((k : ℕ) → k < suc n → P k → ⊥)
    go (inl (k, l, h)) e = inl (k, omega arith, h)
    go (inr none) (inl h) = inl (n, omega arith, h)
    go (inr none) (inr last) = inr (λ k l h. at k l h (cases_eq k n))
      where
        at : (k : ℕ) → k < suc n → P k → (k ≡ n) ⊎ (k ≡ n → ⊥) → ⊥
        at k l h (inl e) = last (subst (λ (m : ℕ). P m) e h)
        at k l h (inr ne) = none k (omega arith) h

pub both : {A B : Type 0} → A ⊎ (A → ⊥) → B ⊎ (B → ⊥) → (A × B) ⊎ (A × B → ⊥)
both (inl a) (inl b) = inl (a, b)
both (inl a) (inr b) = inr (λ h. b h.1)
both (inr a) b = inr (λ h. a h.0)

pub either : {A B : Type 0} → A ⊎ (A → ⊥) → B ⊎ (B → ⊥) → (A ⊎ B) ⊎ (A ⊎ B → ⊥)
either (inl a) b = inl (inl a)
either (inr a) (inl b) = inl (inr b)
either {A} {B} (inr a) (inr b) = inr go
  where
    go : A ⊎ B → ⊥
    go (inl h) = a h
    go (inr h) = b h

pub is_contained : (xs : List ℕ) (x : ℕ) → Contains xs x ⊎ (Contains xs x → ⊥)
is_contained xs x = go (search_below (λ k. get_or xs k x ≡ x) (λ k. cases_eq (get_or xs k x) x) (length xs))
  where
    go : ((k : ℕ) × (k < length xs) × (get_or xs k x ≡ x)) ⊎ ((k : ℕ) → k < length xs → get_or xs k x ≡ x → ⊥) → Contains xs x ⊎ (Contains xs x → ⊥)
    go (inl h) = inl h
    go (inr none) = inr (λ (k, l, e). none k l e)
