-- Chains and circles of numbers along a relation.
use Rattle.std.specs.Prelude.{◌≢◌, ℕ, zero, suc, ◌≤◌, List, [], ◌∷◌}

module _ (Precedes : ℕ → ℕ → Type 0) where
  -- A chain of this many numbers ends with n: the first is one that begins a chain, and each other is preceded by the
  -- one before it.
  abbrev pub Chain : (Begins : ℕ → Type 0) → (n : ℕ) → (many : ℕ) → Type 0
  Chain Begins n zero = ⊥
  Chain Begins n (suc zero) = Begins n
  Chain Begins n (suc (suc many)) = (m : ℕ) × Chain Begins m (suc many) × Precedes m n

  -- how many numbers the longest chain that ends with n has, 0 where none ends with it
  pub record IsLongest (Begins : ℕ → Type 0) (n many : ℕ) : Type 0 where
    pub reached : many ≢ 0 → Chain Begins n many
    pub longest : (k : ℕ) → Chain Begins n k → k ≤ many

  -- the last of these is preceded by the first, and each other by the one after it
  abbrev pub IsRound : (first : ℕ) → List ℕ → Type 0
  IsRound first [] = ⊥
  IsRound first (n ∷ []) = Precedes first n
  IsRound first (n ∷ m ∷ more) = Precedes m n × IsRound first (m ∷ more)

  -- a circle: each is preceded by the next, the last by the first
  abbrev pub IsCircle : List ℕ → Type 0
  IsCircle [] = ⊥
  IsCircle (n ∷ more) = IsRound n (n ∷ more)
