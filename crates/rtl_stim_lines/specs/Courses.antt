-- The course of an input: the times at which it is set, each with the values from then on, or a clock.
use Rattle.std.specs.Prelude.{◌≡◌, ℕ, ◌<◌, false, IsTrue, ◌==◌, ◌-◌, ◌/◌, ◌%◌, ◌&&◌, nat_le, nat_lt, Bool, List, [], ◌∷◌, Option, Some, None, filter, slice_index_or, if◌then◌else◌}
use Rattle.std.specs.Option.{is_some}
use Rattle.std.specs.Ordering.{nat_cmp}
use Rattle.std.specs.Map.{lookup}
use Rattle.std.specs.BTreeMap.{is_at}
use Rattle.vhdl_values.specs.declared.scalar.Nine.{Nine}
use Rattle.vhdl_values.specs.declared.scalar.Nine.TheVariants.{Zero, One}

-- the times of `Sets` rise
pub data Course : Type 0 where
  Sets : List (ℕ × List Nine) → Course
  Ticks : (first half : ℕ) → Course

-- ---- values

-- the last member of a list
abbrev pub last_of : {A : Type 0} → List A → Option A
last_of [] = None
last_of (x ∷ []) = Some x
last_of (x ∷ y ∷ more) = last_of (y ∷ more)

-- the values that are set last, not after a time
abbrev pub set_by : List (ℕ × List Nine) → (t : ℕ) → Option (ℕ × List Nine)
set_by sets t = last_of (filter (λ s. nat_le s.0 t) sets)

-- of the values set last, the one at a place, else the value of the default
abbrev pub set_value : Option (ℕ × List Nine) → (place : ℕ) → (start : Nine) → Nine
set_value None place start = start
set_value (Some s) place start = slice_index_or s.1 place start

-- a clock is 0 before its first time; from there on it is 1 and 0 in turn, a half period each
abbrev pub clock_value : (first half t : ℕ) → Nine
clock_value first half t = if nat_lt t first then Zero else (if (t - first) / half % 2 == 0 then One else Zero)

-- the value at a time of the element at a place, which has this default
abbrev pub course_value : Course → (place : ℕ) → (start : Nine) → (t : ℕ) → Nine
course_value (Sets sets) place start t = set_value (set_by sets t) place start
course_value (Ticks first half) place start t = clock_value first half t

-- ---- moments

-- a clock toggles at its first time and after each half period
abbrev pub toggles : (first half t : ℕ) → Bool
toggles first half t = nat_le first t && (t - first) % half == 0

-- the input is set at the time
abbrev pub is_set_at : List (ℕ × List Nine) → (t : ℕ) → Bool
is_set_at sets t = is_some (lookup (is_at (nat_cmp t)) sets)

-- a set stands at the time, or the clock toggles there
abbrev pub is_busy : Course → (t : ℕ) → Bool
is_busy (Sets sets) t = is_set_at sets t
is_busy (Ticks first half) t = toggles first half t

-- the first time after now at which the clock toggles
pub record IsNextToggle (first half now t : ℕ) : Type 0 where
  pub later : now < t
  pub toggling : IsTrue (toggles first half t)
  pub none_between : (between : ℕ) → now < between → between < t → toggles first half between ≡ false
