-- Loops of rows that feed each other.
use Rattle.std.specs.Prelude.{ℕ, ◌≢◌, ◌≤◌, ⊤, List, [], ◌∷◌, AllPairs, Contains, slice_index}
use Rattle.rtl_check_levels.specs.Feeding.{Table, Feeds}

-- each of these is fed by the next, and the last by q
abbrev pub AreFed : Table → List ℕ → (q : ℕ) → Type 0
AreFed table [] q = ⊤
AreFed table (p ∷ []) q = Feeds table q p
AreFed table (p ∷ r ∷ more) q = Feeds table r p × AreFed table (r ∷ more) q

-- a loop: each is fed by the next, and the last by the first
abbrev pub IsRound : Table → List ℕ → Type 0
IsRound table [] = ⊥
IsRound table (p ∷ more) = AreFed table (p ∷ more) p

-- A loop is listed once round, from its lowest: no row stands twice, and none is below the first.
pub record IsListedOnce (round : List ℕ) : Type 0 where
  pub once : AllPairs (λ p q. p ≢ q) round
  pub lowest : (p : ℕ) → Contains round p → slice_index round 0 ≤ p
