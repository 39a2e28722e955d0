-- Walks along a step that goes from a number to one other at most: whether one ends where it should can be decided.
use Rattle.std.proofs.Common.{◌≡◌, ℕ, zero, suc, ◌<◌, ◌≤◌, true, false, List, [], ◌∷◌, length, refl, sym, ap, arith, ◌⊎◌, inl, inr, subst, eqb}
use Rattle.std.specs.List.{IsDistinct, list_any}
use Rattle.std.proofs.lemmas.List.Elements.{recursion_from_All, All-from_get_or, Contains-get_or}
use Rattle.std.proofs.lemmas.Map.Keys.{IsDistinct-cons}
use Rattle.std.proofs.lemmas.Map.Steps.{length-le_from_distinct_below}
use Rattle.std.proofs.lemmas.Bool.{eqb-true, false_from_ne_true, or_cases}
use Rattle.rtl_model.proofs.basics.Lists.{none_contained}
use Rattle.rtl_model.proofs.basics.Search.{search_below}

-- whether a walk of so many steps from n ends where Ends says
abbrev pub Walks : (Steps : ℕ → ℕ → Type 0) → (Ends : ℕ → Type 0) → (many n : ℕ) → Type 0
Walks Steps Ends zero n = Ends n
Walks Steps Ends (suc many) n = (m : ℕ) × Steps n m × Walks Steps Ends many m

pub record IsStep (Steps : ℕ → ℕ → Type 0) (Ends : ℕ → Type 0) (size : ℕ) : Type 0 where
  pub one : (n m k : ℕ) → Steps n m → Steps n k → m ≡ k
  pub below : (n m : ℕ) → Steps n m → n < size
  pub steps_or_not : (n : ℕ) → ((m : ℕ) × Steps n m) ⊎ ((m : ℕ) → Steps n m → ⊥)
  pub ends_or_not : (n : ℕ) → Ends n ⊎ (Ends n → ⊥)

module _ (Steps : ℕ → ℕ → Type 0) (Ends : ℕ → Type 0) (size : ℕ) (S : IsStep Steps Ends size) where
  abbrev Walk : ℕ → ℕ → Type 0
  Walk many n = Walks Steps Ends many n

  walk_or_not : (many n : ℕ) → Walk many n ⊎ (Walk many n → ⊥)
  walk_or_not zero n = S.ends_or_not n
  walk_or_not (suc many) n = go (λ m. walk_or_not many m) (S.steps_or_not n)
    where
      further : (m : ℕ) → Steps n m → Walk many m ⊎ (Walk many m → ⊥) → Walk (suc many) n ⊎ (Walk (suc many) n → ⊥)
      further m s (inl w) = inl (m, s, w)
      further m s (inr none) = inr (λ (k, t, w). none (subst (λ (x : ℕ). Walk many x) (S.one n k m t s) w))

      go : ((m : ℕ) → Walk many m ⊎ (Walk many m → ⊥)) → ((m : ℕ) × Steps n m) ⊎ ((m : ℕ) → Steps n m → ⊥) → Walk (suc many) n ⊎ (Walk (suc many) n → ⊥)
      go more (inl (m, s)) = further m s (more m)
      go more (inr none) = inr (λ (m, s, w). none m s)

  -- the numbers that a walk leaves
  passed : (many n : ℕ) → Walk many n → List ℕ
  passed zero n w = []
  passed (suc many) n (m, s, w) = n ∷ passed many m w

  as_many : (many n : ℕ) (w : Walk many n) → length (passed many n w) ≡ many
  unfolding passed
  as_many zero n w = refl
  as_many (suc many) n (m, s, w) = ap suc (as_many many m w)

  passed_below : (many n : ℕ) (w : Walk many n) (r : ℕ) → list_any (eqb r) (passed many n w) ≡ true → r < size
  unfolding passed
  passed_below zero n w r h = cc
  passed_below (suc many) n (m, s, w) r h = go (passed_below many m w r) (or_cases (eqb r n) (list_any (eqb r) (passed many m w)) h)
    where
      go : (list_any (eqb r) (passed many m w) ≡ true → r < size) → (eqb r n ≡ true) ⊎ (list_any (eqb r) (passed many m w) ≡ true) → r < size
      go more (inl e) = let k = eqb-true r n e in let l = S.below n m s in omega arith
      go more (inr e) = more e

  -- a walk that leaves a number goes on from it
  goes_on : (many n : ℕ) (w : Walk many n) (r : ℕ) → list_any (eqb r) (passed many n w) ≡ true → (k : ℕ) × (k ≤ many) × Walk k r
  unfolding passed
  goes_on zero n w r h = cc
  goes_on (suc many) n (m, s, w) r h = go (goes_on many m w r) (or_cases (eqb r n) (list_any (eqb r) (passed many m w)) h)
    where
      go : (list_any (eqb r) (passed many m w) ≡ true → (k : ℕ) × (k ≤ many) × Walk k r) → (eqb r n ≡ true) ⊎ (list_any (eqb r) (passed many m w) ≡ true) → (k : ℕ) × (k ≤ suc many) × Walk k r
      go more (inl e) = (suc many, omega arith, subst (λ (x : ℕ). Walk (suc many) x) (sym (eqb-true r n e)) (m, s, w))
      go more (inr e) = let (k, l, v) = more e in (k, omega arith, v)

  -- the shortest walk leaves no number twice, so it has no more steps than there are numbers
  distinct : (many n : ℕ) (w : Walk many n) → ((k : ℕ) → k < many → Walk k n → ⊥) → IsDistinct eqb (passed many n w)
  unfolding passed IsDistinct
  distinct zero n w least = tt
  distinct (suc many) n (m, s, w) least =
      IsDistinct-cons eqb n (passed many m w)
      (recursion_from_All (λ y. eqb n y ≡ false) (passed many m w) (All-from_get_or (λ y. eqb n y ≡ false) (passed many m w) 0 (λ k l. none_contained (eqb n) (passed many m w) _ (false_from_ne_true _ (λ h. again (goes_on many m w n h))) (Contains-get_or (passed many m w) k 0 l))))
      (distinct many m w (λ k l v. least (suc k) (omega arith) (m, s, v)))
    where
      again : (k : ℕ) × (k ≤ many) × Walk k n → ⊥
      again (k, l, v) = least k (omega arith) v

  short : (many n : ℕ) → Walk many n → ((k : ℕ) → k < many → Walk k n → ⊥) → many ≤ size
  short many n w least =
      let e = as_many many n w in
      let l = length-le_from_distinct_below (passed many n w) size (distinct many n w least) (passed_below many n w) in
      omega arith

  shorten : (top many n : ℕ) → many ≤ top → Walk many n → (k : ℕ) × (k ≤ size) × Walk k n
  shorten zero many n l w = (many, omega arith, w)
  shorten (suc top) many n l w = go (λ k m v. shorten top k n m v) (search_below (λ k. Walk k n) (λ k. walk_or_not k n) many)
    where
      go : ((k : ℕ) → k ≤ top → Walk k n → (j : ℕ) × (j ≤ size) × Walk j n) → ((k : ℕ) × (k < many) × Walk k n) ⊎ ((k : ℕ) → k < many → Walk k n → ⊥) → (j : ℕ) × (j ≤ size) × Walk j n
      go lower (inl (k, m, v)) = lower k (omega arith) v
      go lower (inr least) = (many, short many n w least, w)

  pub some_walk_or_none : (n : ℕ) → ((many : ℕ) × Walk many n) ⊎ ((many : ℕ) → Walk many n → ⊥)
  some_walk_or_none n = go (search_below (λ k. Walk k n) (λ k. walk_or_not k n) (suc size))
    where
      go : ((k : ℕ) × (k < suc size) × Walk k n) ⊎ ((k : ℕ) → k < suc size → Walk k n → ⊥) → ((many : ℕ) × Walk many n) ⊎ ((many : ℕ) → Walk many n → ⊥)
      go (inl (k, l, w)) = inl (k, w)
      go (inr none) = inr (λ many w. let (k, l, v) = shorten many many n (omega arith) w in none k (omega arith) v)
