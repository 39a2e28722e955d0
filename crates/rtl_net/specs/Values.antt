-- How a value of a signal or port is told in words: a letter of the nine values for each element from the left, of an
-- integer its digits in base 10, and of a boolean `true` or `false`.
use Rattle.std.specs.Prelude.{ℕ, ◌==◌, Bool, true, false, if◌then◌else◌, List, map, slice_index, codes, ℤ, pos, negsuc}
use Rattle.std.specs.Fmt.{signed_decimal}
use Rattle.vhdl_values.specs.declared.scalar.Nine.{Nine}
use Rattle.vhdl_values.specs.declared.scalar.Nine.TheVariants.{One}
use Rattle.vhdl_values.specs.Scalar.{code_of, letter_of, value_of_code}
use Rattle.vhdl_values.specs.Numbers.{all_good, number_of}
use Rattle.vhdl_numbers.specs.TwosComplement.{signed_number_of}
use Rattle.rtl_net.specs.declared.signal.SignalKind.{SignalKind}
use Rattle.rtl_net.specs.declared.signal.SignalKind.TheVariants.{Integer, Boolean}

-- the letters of values, by their codes
abbrev pub letters_of : (values : List ℕ) → List ℕ
letters_of values = map (λ code. letter_of (value_of_code code)) values

-- the integer that digits are, where the least one of its type is this: without a sign where that isn't below 0
abbrev pub integer_of_digits : (least : ℤ) → List Nine → ℤ
integer_of_digits (pos least) digits = pos (number_of digits)
integer_of_digits (negsuc least) digits = signed_number_of digits

-- `x` where some digit is none
abbrev pub integer_text : (least : ℤ) → List Nine → List ℕ
integer_text least digits =
    if all_good digits then signed_decimal (integer_of_digits least digits) else codes "x"

abbrev pub boolean_text : Bool → List ℕ
boolean_text true = codes "true"
boolean_text false = codes "false"

-- of elements of this kind with these values, by their codes
abbrev pub value_text : SignalKind → (values : List ℕ) → List ℕ
value_text (Integer least greatest) values = integer_text least (map value_of_code values)
value_text Boolean values = boolean_text (slice_index values 0 == code_of One)
value_text _ values = letters_of values
