-- The levels of the rows of a table, by what each is to those that feed it.
use Rattle.std.specs.Prelude.{◌≡◌, ◌≢◌, ℕ, suc, ◌≤◌, ◌<◌, ◌⊎◌, IsSomeAnd, List, length, Option, None, Some, IsSome, MatchOption, IfSome, slice_index_or, Contains, if◌then◌else◌}
use Rattle.rtl_check_levels.specs.declared.counting.Counting.{Counting}
use Rattle.rtl_check_levels.specs.declared.counting.Counting.TheVariants.{Each}
use Rattle.rtl_check_levels.specs.declared.highest.Highest.{Highest}
use Rattle.rtl_check_levels.specs.Feeding.{Table, IsIn, feeders_of, counts_in}

-- the level of row p, if it has one
abbrev pub level_of : List (Option ℕ) → (p : ℕ) → Option ℕ
level_of levels p = slice_index_or levels p None

-- what those that row p feeds see of it: itself, where it counts, and else the row that it is from
abbrev pub seen_of : Counting → (from : List (Option ℕ)) → (p : ℕ) → Option ℕ
seen_of counting from p = if counts_in counting p then Some p else slice_index_or from p None

-- The greatest level of these rows and, unless it is 0, the lowest row that is seen of those that have it.
pub record IsHighest (counting : Counting) (rows : List ℕ) (levels from : List (Option ℕ))
    (level : ℕ) (row : Option ℕ) : Type 0 where
  pub each : (p : ℕ) → Contains rows p
      → (b : ℕ) × (level_of levels p ≡ Some b) × (b ≤ level)
      × (b ≡ level → IfSome row (λ f. IfSome (seen_of counting from p) (λ seen. f ≤ seen)))
  pub met : MatchOption row (level ≡ 0)
      (λ f. (level ≢ 0)
      × ((p : ℕ) × Contains rows p × (level_of levels p ≡ Some level) × (seen_of counting from p ≡ Some f)))

-- a row of this level takes the place of the highest so far: it is higher, or as high and lower by number
abbrev pub GivesWay : (highest : ℕ) → (at : Option ℕ) → (row level : ℕ) → Type 0
GivesWay highest at row level = (highest < level) ⊎ ((level ≡ highest) × IsSomeAnd at (λ p. row < p))

-- the higher of these two, one of which is this row with this level, if a row is seen
abbrev pub Higher : Highest → (seen : Option ℕ) → (level : ℕ) → Highest → Type 0
Higher old None level new = new ≡ old
Higher old (Some row) level new =
    (GivesWay old.level old.row row level → new ≡ record { level = level; row = Some row })
    × ((GivesWay old.level old.row row level → ⊥) → new ≡ old)

-- what feeds a row that has a level is seen, unless the level is 0
abbrev pub IsSeen : Counting → (from : List (Option ℕ)) → (p level : ℕ) → Type 0
IsSeen counting from p level = level ≢ 0 → IsSome (seen_of counting from p)

-- Row q stands above those that feed it: it has the greatest of their levels, or one more where it counts, from the
-- lowest that is seen.
abbrev pub StandsAbove : Counting → Table → (levels from : List (Option ℕ)) → (q level : ℕ) → Type 0
StandsAbove counting table levels from q level =
    (below : ℕ) × (level ≡ (if counts_in counting q then suc below else below))
    × IsHighest counting (feeders_of table q) levels from below (slice_index_or from q None)

-- each row of the table has its level and its from, no other has any, and greatest is the greatest level, 0 without any
pub record AreLevelsBy (counting : Counting) (table : Table) (levels from : List (Option ℕ))
    (greatest : ℕ) : Type 0 where
  pub each_row : length levels ≡ length table
  pub each_from : length from ≡ length table
  pub others : (q : ℕ) → (IsIn table q → ⊥) → (level_of levels q ≡ None) × (slice_index_or from q None ≡ None)
  pub each : (q : ℕ) → IsIn table q
      → (level : ℕ) × (level_of levels q ≡ Some level) × StandsAbove counting table levels from q level
  pub none_above : (p level : ℕ) → level_of levels p ≡ Some level → level ≤ greatest
  pub met : greatest ≢ 0 → (p : ℕ) × (level_of levels p ≡ Some greatest)

-- the same of processes, each of which counts
abbrev pub AreLevels : Table → (levels from : List (Option ℕ)) → (greatest : ℕ) → Type 0
AreLevels = AreLevelsBy Each
