-- Where a row begins in what rows lie in.
use Rattle.std.specs.Prelude.{◌≡◌, ℕ, ◌*◌, ◌<◌, ◌≤◌, List, Some}
use Rattle.vhdl_values.specs.declared.scalar.Nine.{Nine}
use Rattle.vhdl_numbers.specs.Counts.{natural_of}
use Rattle.rtl_model.specs.bodies.Rows.{Spacing, row_count}

-- in so many elements the row with the number of the index is there, and begins at this place
pub record BeginsAt (spacing : Spacing) (elements : ℕ) (index : List Nine) (place : ℕ) : Type 0 where
  pub number : ℕ
  pub named : natural_of index ≡ Some number
  pub there : number < row_count spacing elements
  pub begins : place ≡ number * spacing.step

-- it isn't
abbrev pub IsNowhere : Spacing → (elements : ℕ) → (index : List Nine) → Type 0
IsNowhere spacing elements index = (number : ℕ) → natural_of index ≡ Some number → row_count spacing elements ≤ number
