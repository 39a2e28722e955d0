-- Chains and circles along a relation that can be decided, of numbers below some number.
use Rattle.std.proofs.Common.{◌≡◌, ℕ, zero, suc, ◌<◌, ◌≤◌, true, false, List, [], ◌∷◌, length, get_or, take, refl, sym, ap, arith, ◌⊎◌, inl, inr, subst, eqb}
use Rattle.std.specs.List.{IsDistinct, list_any}
use Rattle.std.proofs.lemmas.List.Elements.{All-from_get_or, recursion_from_All}
use Rattle.std.proofs.lemmas.Map.Keys.{IsDistinct-cons}
use Rattle.std.proofs.lemmas.Map.Steps.{length-le_from_distinct_below}
use Rattle.std.proofs.lemmas.Bool.{cases_eq, ne_eqb, eqb-true, or_cases}
use Rattle.rtl_model.specs.basics.Chains.{Chain, IsLongest, IsRound, IsCircle}
use Rattle.rtl_model.proofs.basics.Search.{search_below, both}

-- what can be searched: whatever is preceded begins a chain too, and what does lies below a size
pub record IsFinite (Precedes : ℕ → ℕ → Type 0) (Begins : ℕ → Type 0) (size : ℕ) : Type 0 where
  pub begins : (m n : ℕ) → Precedes m n → Begins n
  pub below : (n : ℕ) → Begins n → n < size
  pub begins_or_not : (n : ℕ) → Begins n ⊎ (Begins n → ⊥)
  pub precedes_or_not : (m n : ℕ) → Precedes m n ⊎ (Precedes m n → ⊥)

-- the greatest number that has a property, where 1 has it and none above b
highest : (Q : ℕ → Type 0) → ((n : ℕ) → Q n ⊎ (Q n → ⊥)) → Q 1 → (b : ℕ) → ((n : ℕ) → Q n → n ≤ b) → (n : ℕ) × Q n × ((m : ℕ) → Q m → m ≤ n)
highest Q d one zero top = let l = top 1 one in absurd (omega arith)
highest Q d one (suc b) top = go (λ t. highest Q d one b t) (d (suc b))
  where
    go : (((n : ℕ) → Q n → n ≤ b) → (n : ℕ) × Q n × ((m : ℕ) → Q m → m ≤ n)) → Q (suc b) ⊎ (Q (suc b) → ⊥) → (n : ℕ) × Q n × ((m : ℕ) → Q m → m ≤ n)
    go lower (inl h) = (suc b, h, top)
    go lower (inr none) = lower (λ n h. at n h (cases_eq n (suc b)))
      where
        at : (n : ℕ) → Q n → (n ≡ suc b) ⊎ (n ≡ suc b → ⊥) → n ≤ b
        at n h (inl e) = absurd (none (subst (λ (m : ℕ). Q m) e h))
        at n h (inr ne) = let l = top n h in omega arith

module _ (Precedes : ℕ → ℕ → Type 0) (Begins : ℕ → Type 0) (size : ℕ) (F : IsFinite Precedes Begins size) where
  pub end_begins : (many n : ℕ) → Chain Precedes Begins n many → Begins n
  end_begins zero n c = absurd c
  end_begins (suc zero) n c = c
  end_begins (suc (suc many)) n (m, c, p) = F.begins m n p

  is_chain : (many n : ℕ) → Chain Precedes Begins n many ⊎ (Chain Precedes Begins n many → ⊥)
  is_chain zero n = inr (λ h. h)
  is_chain (suc zero) n = F.begins_or_not n
  is_chain (suc (suc many)) n = go (search_below (λ m. Chain Precedes Begins m (suc many) × Precedes m n) (λ m. both (is_chain (suc many) m) (F.precedes_or_not m n)) size)
    where
      go : ((m : ℕ) × (m < size) × (Chain Precedes Begins m (suc many) × Precedes m n)) ⊎ ((m : ℕ) → m < size → Chain Precedes Begins m (suc many) × Precedes m n → ⊥)
          → Chain Precedes Begins n (suc (suc many)) ⊎ (Chain Precedes Begins n (suc (suc many)) → ⊥)
      go (inl (m, l, c)) = inl (m, c.0, c.1)
      go (inr none) = inr (λ (m, c, p). none m (F.below m (end_begins (suc many) m c)) (c, p))

  -- a chain as a list, its end first
  IsChain : ℕ → List ℕ → Type 0
  IsChain n [] = Begins n
  IsChain n (m ∷ more) = Precedes m n × IsChain m more

  chain_list : (many n : ℕ) → Chain Precedes Begins n (suc many) → (more : List ℕ) × (length more ≡ many) × IsChain n more
  unfolding IsChain
  chain_list zero n c = ([], refl, c)
  chain_list (suc many) n (m, c, p) = let (more, e, chain) = chain_list many m c in (m ∷ more, ap suc e, (p, chain))

  -- a chain that comes back to a number has a circle
  back : (first n : ℕ) (more : List ℕ) (k : ℕ) → IsChain n more → k < length more → get_or more k 0 ≡ first → IsRound Precedes first (n ∷ take k more)
  unfolding IsChain
  back first n [] k c l e = absurd (omega arith)
  back first n (m ∷ more) zero (p, c) l e = subst (λ (r : ℕ). Precedes r n) e p
  back first n (m ∷ more) (suc k) (p, c) l e = (p, back first m more k c (omega arith) e)

  chain_in_range : (n : ℕ) (more : List ℕ) → IsChain n more → (r : ℕ) → list_any (eqb r) (n ∷ more) ≡ true → r < size
  unfolding IsChain
  chain_in_range n [] c r h = go (or_cases (eqb r n) false h)
    where
      go : (eqb r n ≡ true) ⊎ (false ≡ true) → r < size
      go (inl e) = let k = eqb-true r n e in let l = F.below n c in omega arith
      go (inr e) = cc
  chain_in_range n (m ∷ more) c r h = go (chain_in_range m more c.1 r) (or_cases (eqb r n) (list_any (eqb r) (m ∷ more)) h)
    where
      go : (list_any (eqb r) (m ∷ more) ≡ true → r < size) → (eqb r n ≡ true) ⊎ (list_any (eqb r) (m ∷ more) ≡ true) → r < size
      go more' (inl e) = let k = eqb-true r n e in let l = F.below n (F.begins m n c.0) in omega arith
      go more' (inr e) = more' e

  -- without a circle no chain is longer than the size, so each number has a longest one
  module _ (none : (ns : List ℕ) → IsCircle Precedes ns → ⊥) where
    chain_distinct : (n : ℕ) (more : List ℕ) → IsChain n more → IsDistinct eqb (n ∷ more)
    unfolding IsChain IsDistinct
    chain_distinct n [] c = IsDistinct-cons eqb n [] tt tt
    chain_distinct n (m ∷ more) c =
        IsDistinct-cons eqb n (m ∷ more)
        (recursion_from_All (λ y. eqb n y ≡ false) (m ∷ more) (All-from_get_or (λ y. eqb n y ≡ false) (m ∷ more) 0 (λ k l. ne_eqb n _ (λ e. none (n ∷ take k (m ∷ more)) (back n n (m ∷ more) k c l (sym e))))))
        (chain_distinct m more c.1)

    chain_bounded : (n many : ℕ) → Chain Precedes Begins n many → many ≤ size
    chain_bounded n zero c = absurd c
    chain_bounded n (suc many) c =
        let (more, e, chain) = chain_list many n c in
        let l = length-le_from_distinct_below (n ∷ more) size (chain_distinct n more chain) (chain_in_range n more chain) in
        omega arith

    pub longest_chain : (n : ℕ) → (many : ℕ) × IsLongest Precedes Begins n many
    longest_chain n = go (F.begins_or_not n)
      where
        go : Begins n ⊎ (Begins n → ⊥) → (many : ℕ) × IsLongest Precedes Begins n many
        go (inl b) = let (many, c, top) = highest (λ k. Chain Precedes Begins n k) (λ k. is_chain k n) b size (λ k c. chain_bounded n k c) in (many, record { reached = λ h. c; longest = top })
        go (inr h) = (0, record { reached = λ z. absurd (z refl); longest = λ k c. absurd (h (end_begins k n c)) })

-- of two longest chains with one end one is as long as the other, and along the relation they grow
module _ (Precedes : ℕ → ℕ → Type 0) (Begins : ℕ → Type 0) where
  not_longer : (n a b : ℕ) → IsLongest Precedes Begins n a → IsLongest Precedes Begins n b → a ≤ b
  not_longer n zero b x y = omega arith
  not_longer n (suc a) b x y = y.longest (suc a) (x.reached (λ z. omega arith))

  pub one_length : (n a b : ℕ) → IsLongest Precedes Begins n a → IsLongest Precedes Begins n b → a ≡ b
  one_length n a b x y = let l = not_longer n a b x y in let k = not_longer n b a y x in omega arith

  pub grows : ((m n : ℕ) → Precedes m n → Begins n) → (m n a b : ℕ) → Precedes m n → IsLongest Precedes Begins m a → IsLongest Precedes Begins n b → a < b
  grows begins m n zero b p x y = y.longest 1 (begins m n p)
  grows begins m n (suc a) b p x y = y.longest (suc (suc a)) (m, x.reached (λ z. omega arith), p)

-- a numbering that rises along the relation is nowhere below the length of a chain, and then there is no circle
module _ (Precedes : ℕ → ℕ → Type 0) (Begins : ℕ → Type 0) (f : ℕ → ℕ) (along : (m n : ℕ) → Precedes m n → f m < f n) where
  pub chain_below : ((n : ℕ) → Begins n → 1 ≤ f n) → (many n : ℕ) → Chain Precedes Begins n many → many ≤ f n
  chain_below one zero n c = omega arith
  chain_below one (suc zero) n c = one n c
  chain_below one (suc (suc many)) n (m, c, p) = let a = chain_below one (suc many) m c in let b = along m n p in omega arith

  round_rises : (first n : ℕ) (more : List ℕ) → IsRound Precedes first (n ∷ more) → f first < f n
  round_rises first n [] p = along first n p
  round_rises first n (m ∷ more) (p, round) = let a = along m n p in let b = round_rises first m more round in omega arith

  pub no_circle : (ns : List ℕ) → IsCircle Precedes ns → ⊥
  no_circle [] h = h
  no_circle (n ∷ more) h = let a = round_rises n n more h in omega arith
