-- The greatest of some levels.
use Rattle.std.specs.Prelude.{◌≡◌, ◌≢◌, ℕ, ◌<◌, ◌≤◌, max, List, Option, Some, None}
use Rattle.rtl_check.specs.Standing.{level_of}

abbrev pub greater : ℕ → Option ℕ → ℕ
greater greatest None = greatest
greater greatest (Some level) = max greatest level

-- of the processes below a number, 0 without any
pub record IsGreatestTo (levels : List (Option ℕ)) (many greatest : ℕ) : Type 0 where
  pub none_above : (p level : ℕ) → p < many → level_of levels p ≡ Some level → level ≤ greatest
  pub met : greatest ≢ 0 → (p : ℕ) × (level_of levels p ≡ Some greatest)
