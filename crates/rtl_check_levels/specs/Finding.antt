-- What holds while levels are found.
use Rattle.std.specs.Prelude.{◌≡◌, ◌≢◌, ℕ, suc, ◌+◌, ◌≤◌, ◌<◌, ◌⊎◌, ◌*◌, Bool, not, List, [], ◌∷◌, ◌++◌, length, Option, None, Some, IsSome, Contains, count_by, slice_index, slice_index_or, slice_set}
use Rattle.std.specs.Option.{is_some}
use Rattle.rtl_check_levels.specs.declared.counting.Counting.{Counting}
use Rattle.rtl_check_levels.specs.declared.finding.Finding.{Finding}
use Rattle.rtl_check_levels.specs.declared.finding.Wait.{Wait}
use Rattle.rtl_check_levels.specs.Feeding.{Table, IsIn, Feeds, feeders_of}
use Rattle.rtl_check_levels.specs.Levels.{level_of, StandsAbove}

abbrev pub is_open : Option ℕ → Bool
is_open level = not (is_some level)

-- how many have no level yet
abbrev pub open_count : List (Option ℕ) → ℕ
open_count levels = count_by is_open levels

-- Levels so far: those that there are, stand.
pub record LevelsSoFar (counting : Counting) (table : Table) (levels from : List (Option ℕ)) (greatest : ℕ)
    : Type 0 where
  pub each_row : length levels ≡ length table
  pub each_from : length from ≡ length table
  pub unplaced : (q : ℕ) → level_of levels q ≡ None → slice_index_or from q None ≡ None
  pub inside : (q level : ℕ) → level_of levels q ≡ Some level → IsIn table q
  pub stand : (q level : ℕ) → level_of levels q ≡ Some level → StandsAbove counting table levels from q level
  pub none_above : (p level : ℕ) → level_of levels p ≡ Some level → level ≤ greatest
  pub met : greatest ≢ 0 → (p : ℕ) × (level_of levels p ≡ Some greatest)
  -- so no level is above the number of rows
  pub small : (p level : ℕ) → level_of levels p ≡ Some level → level + open_count levels ≤ length table

-- ---- who waits

-- the wait at this place
abbrev pub wait_at : List Wait → (i : ℕ) → Wait
wait_at waits i = slice_index_or waits i (record { row = 0; before = 0 })

-- row q is among those that began to wait for the same row, so many waits being there up to the last of them
pub data IsAmong (waits : List Wait) : (last q : ℕ) → Type 0 where
  itself : (i q : ℕ) → i < length waits → (wait_at waits i).row ≡ q → IsAmong waits (suc i) q
  earlier : (i q : ℕ) → i < length waits → IsAmong waits (wait_at waits i).before q → IsAmong waits (suc i) q

-- row q waits for row p
abbrev pub IsWaiting : Finding → (p q : ℕ) → Type 0
IsWaiting f p q = IsAmong f.waits.items (slice_index f.last.items p) q

-- Nobody waits for a row whose level is found and that isn't ready, and whoever waits is in the table.
pub record WaitingSoFar (table : Table) (levels : List (Option ℕ)) (waits : List Wait) (last ready passed : List ℕ)
    : Type 0 where
  pub each_last : length last ≡ length table
  pub each_passed : length passed ≡ length table
  pub idle : (p : ℕ) → IsSome (level_of levels p) → Contains ready p ⊎ (slice_index last p ≡ 0)
  pub last_there : (p : ℕ) → slice_index last p ≤ length waits
  pub rows_there : (i : ℕ) → i < length waits → (wait_at waits i).row < length table
  pub in_order : (i : ℕ) → i < length waits → (wait_at waits i).before ≤ i
  pub ready_there : (p : ℕ) → Contains ready p → p < length table
  pub passed_most : (q : ℕ) → slice_index passed q ≤ length (feeders_of table q)
  pub passed_have : (q k : ℕ) → k < slice_index passed q → IsSome (level_of levels (slice_index (feeders_of table q) k))

-- ---- the steps

-- the state so far
pub record IsFinding (counting : Counting) (table : Table) (f : Finding) : Type 0 where
  pub levels : LevelsSoFar counting table f.levels.items f.from.items f.greatest
  pub waiting : WaitingSoFar table f.levels.items f.waits.items f.last.items f.ready.items f.passed.items

-- what is left to do falls with each step
abbrev pub work_left : Finding → ℕ
work_left f = 2 * open_count f.levels.items + length f.ready.items

-- later: levels stay, and whoever waits keeps waiting
pub record Grows (old new : Finding) : Type 0 where
  pub levels : (p level : ℕ) → level_of old.levels.items p ≡ Some level → level_of new.levels.items p ≡ Some level
  pub longer : length old.waits.items ≤ length new.waits.items
  pub among : (last q : ℕ) → IsAmong old.waits.items last q → IsAmong new.waits.items last q
  pub waits : (p q : ℕ) → IsWaiting old p q → IsWaiting new p q
  pub less : work_left new ≤ work_left old

-- q has its level or waits for a row that feeds it
abbrev pub IsRanked : Table → Finding → (q : ℕ) → Type 0
IsRanked table f q =
    IsIn table q → level_of f.levels.items q ≡ None → (p : ℕ) × IsWaiting f p q × Feeds table p q

-- row q begins to wait for row p, behind the others that wait for it
pub record Waits (q p : ℕ) (old new : Finding) : Type 0 where
  pub waits : new.waits.items ≡ old.waits.items ++ record { row = q; before = slice_index old.last.items p } ∷ []
  pub last : new.last.items ≡ slice_set old.last.items p (length new.waits.items)
  pub levels : new.levels ≡ old.levels
  pub from : new.from ≡ old.from
  pub greatest : new.greatest ≡ old.greatest
  pub passed : new.passed ≡ old.passed
  pub ready : new.ready ≡ old.ready

-- these are all that waited for a row that was ready
pub record AreReleased (old new : Finding) (last : ℕ) : Type 0 where
  pub levels : new.levels ≡ old.levels
  pub less : length new.ready.items < length old.ready.items
  pub waits : (p q : ℕ) → IsWaiting old p q → IsWaiting new p q ⊎ IsAmong new.waits.items last q
  pub there : last ≤ length new.waits.items
