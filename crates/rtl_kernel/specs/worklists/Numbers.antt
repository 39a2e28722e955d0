-- A set of numbers below some bound, to be worked off.
use Rattle.std.specs.Prelude.{◌≡◌, ℕ, ◌⊎◌, List, Contains}

pub record Numbers : Type 0 where
  -- the numbers are below this
  pub bound : ℕ
  -- in the order in which they came, each once
  pub members : List ℕ

-- new has the numbers of old and this one
pub record IsWith (number : ℕ) (old new : Numbers) : Type 0 where
  pub bound_stays : new.bound ≡ old.bound
  pub kept : (n : ℕ) → Contains old.members n → Contains new.members n
  pub added : Contains new.members number
  pub no_other : (n : ℕ) → Contains new.members n → Contains old.members n ⊎ (n ≡ number)
