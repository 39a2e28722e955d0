-- The lowest of some rows that has no level.
use Rattle.std.specs.Prelude.{◌≡◌, ℕ, ◌≤◌, List, Option, None, MatchOption, Contains}
use Rattle.rtl_check_levels.specs.Feeding.{Table, IsIn, Feeds}
use Rattle.rtl_check_levels.specs.Levels.{level_of}

pub record IsLowestOpen (rows : List ℕ) (levels : List (Option ℕ)) (p : ℕ) : Type 0 where
  pub among : Contains rows p
  pub unplaced : level_of levels p ≡ None
  pub lowest : (r : ℕ) → Contains rows r → level_of levels r ≡ None → p ≤ r

abbrev pub LowestOpen : List ℕ → List (Option ℕ) → Option ℕ → Type 0
LowestOpen rows levels o =
    MatchOption o ((p : ℕ) → Contains rows p → level_of levels p ≡ None → ⊥) (IsLowestOpen rows levels)

-- each row of the table that has no level is fed by another
abbrev pub AreLeft : Table → List (Option ℕ) → Type 0
AreLeft table levels =
    (q : ℕ) → IsIn table q → level_of levels q ≡ None → (p : ℕ) × Feeds table p q × (level_of levels p ≡ None)
