-- Many steps, and tables of them.
use Rattle.std.proofs.Common.{◌≡◌, ℕ, zero, suc, ◌+◌, ◌<◌, ◌⊎◌, inl, inr, List, [], ◌∷◌, ◌++◌, length, get_or, refl, ap, ◌∙◌, arith}
use Rattle.std.proofs.lemmas.List.{length_push, get_or_push}
use Rattle.rtl_copy_ends.specs.Steps.{after}

pub after-add : (f : ℕ → ℕ) (a b p : ℕ) → after f (a + b) p ≡ after f b (after f a p)
after-add f zero b p = ap (λ (k : ℕ). after f k p) (let e : 0 + b ≡ b = omega arith in e)
after-add f (suc a) b p = ap (λ (k : ℕ). after f k p) (let e : suc a + b ≡ suc (a + b) = omega arith in e) ∙ after-add f a b (f p)

module _ (f : ℕ → ℕ) (many : ℕ) (stays : (p : ℕ) → p < many → f p < many) where
  pub after-stays : (k p : ℕ) → p < many → after f k p < many
  after-stays zero p l = l
  after-stays (suc k) p l = after-stays k (f p) (stays p l)

  -- the same steps by another function
  pub after-same : (g : ℕ → ℕ) → ((p : ℕ) → p < many → f p ≡ g p) → (k p : ℕ) → p < many → after f k p ≡ after g k p
  after-same g same zero p l = refl
  after-same g same (suc k) p l = after-same g same k (f p) (stays p l) ∙ ap (after g k) (same p l)

-- a place where nothing leads on
pub after-ended : (f : ℕ → ℕ) (p : ℕ) → f p ≡ p → (k : ℕ) → after f k p ≡ p
after-ended f p is zero = refl
after-ended f p is (suc k) = ap (after f k) is ∙ after-ended f p is k

-- ---- a table that grows

before : (xs : List ℕ) (x k : ℕ) → k < length xs → get_or (xs ++ x ∷ []) k 0 ≡ get_or xs k 0
before [] x k l = absurd (omega arith)
before (y ∷ ys) x zero l = refl
before (y ∷ ys) x (suc k) l = before ys x k (omega arith)

pub one-more : (f : ℕ → ℕ) (xs new : List ℕ) (many x : ℕ) → length xs ≡ many → new ≡ xs ++ x ∷ [] → ((k : ℕ) → k < many → get_or xs k 0 ≡ f k) → x ≡ f many
    → (length new ≡ many + 1) × ((k : ℕ) → k < many + 1 → get_or new k 0 ≡ f k)
one-more f xs new many x n e h last = (ap length e ∙ (length_push xs x ∙ ap (λ (k : ℕ). k + 1) n), λ k l. ap (λ (ys : List ℕ). get_or ys k 0) e ∙ go k (below k l))
  where
    below : (k : ℕ) → k < many + 1 → (k < many) ⊎ (many ≡ k)
    below k l = grind arith

    go : (k : ℕ) → (k < many) ⊎ (many ≡ k) → get_or (xs ++ x ∷ []) k 0 ≡ f k
    go k (inl m) = before xs x k (omega arith) ∙ h k m
    go k (inr m) = get_or_push xs x 0 k (n ∙ m) ∙ (last ∙ ap f m)
