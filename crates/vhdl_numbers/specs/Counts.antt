-- Counts and indices that a run computes: numbers in two's complement.
use Rattle.std.specs.Prelude.{ℕ, ◌&&◌, not, if◌then◌else◌, List, length, replicate, Option, Some, None, option_map, unwrap_or}
use Rattle.vhdl_values.specs.declared.kinds.Shift.{Shift}
use Rattle.vhdl_values.specs.declared.scalar.Nine.{Nine}
use Rattle.vhdl_values.specs.declared.scalar.Nine.TheVariants.{X, Zero}
use Rattle.vhdl_values.specs.Numbers.{all_good, number_of}
use Rattle.vhdl_values.specs.Shifts.{shifted_of}
use Rattle.vhdl_numbers.specs.TwosComplement.{is_negative}

-- the number, where each element is good and it isn't negative
abbrev pub natural_of : List Nine → Option ℕ
natural_of vs = if all_good vs && not (is_negative vs) then Some (number_of vs) else None

-- A vector shifted by a count (numeric_std, SHIFT_LEFT S.1 to ROTATE_LEFT S.5). A count is a natural (IEEE 1076-2008,
-- 16.3); one that isn't is an error of the run, and gives X's here (own).
abbrev pub shifted_by : Shift → (count : List Nine) → List Nine → List Nine
shifted_by by count vs =
    unwrap_or (option_map (λ n. shifted_of Zero by n vs) (natural_of count)) (replicate (length vs) X)
