-- Functions of one vector, whose result is as long.
use Rattle.std.specs.Prelude.{Bool, ◌&&◌, if◌then◌else◌, List, length, map, replicate, ℤ, pos, unsigned_abs, int_le}
use Rattle.vhdl_values.specs.declared.scalar.Nine.{Nine}
use Rattle.vhdl_values.specs.declared.scalar.Nine.TheVariants.{X, Zero}
use Rattle.vhdl_values.specs.Scalar.{x01_of}
use Rattle.vhdl_values.specs.Numbers.{all_good}
use Rattle.vhdl_numbers.specs.declared.kinds.Conversion.{Conversion}
use Rattle.vhdl_numbers.specs.declared.kinds.Conversion.TheVariants.{Cleaned, Within, Magnitude}
use Rattle.vhdl_numbers.specs.TwosComplement.{signed_number_of, signed_or_x}

-- Each element as 0 or 1, and all 0 where one of them isn't good: TO_INTEGER takes such a vector for 0 (numeric_std,
-- TO_01 T.1 and T.2, TO_INTEGER D.1 and D.2).
abbrev pub cleaned : List Nine → List Nine
cleaned vs = if all_good vs then map x01_of vs else replicate (length vs) Zero

-- whether a number lies between two others, these included
abbrev pub is_between : (least greatest : ℤ) → ℤ → Bool
is_between least greatest n = int_le least n && int_le n greatest

-- The vector as it is where it is good and its number lies in a range, and else all X. The number is one of a type or
-- subtype with this range; one outside is an error of the run (IEEE 1076-2008, 5.2.3.1, 10.5.2.1, 10.6.2.1), which is
-- X here (own).
abbrev pub within : (least greatest : ℤ) → List Nine → List Nine
within least greatest vs =
    if all_good vs && is_between least greatest (signed_number_of vs) then vs else replicate (length vs) X

-- The number without its sign (numeric_std, "abs" A.1; of integers IEEE 1076-2008, 9.2.8): of the least number, which
-- has no counterpart of this length, it is that number itself.
abbrev pub magnitude : List Nine → List Nine
magnitude vs = signed_or_x (all_good vs) (length vs) (pos (unsigned_abs (signed_number_of vs)))

-- ---- all three

abbrev pub converted : Conversion → List Nine → List Nine
converted Cleaned vs = cleaned vs
converted (Within least greatest) vs = within least greatest vs
converted Magnitude vs = magnitude vs
