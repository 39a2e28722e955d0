-- How long results are.
use Rattle.std.proofs.Common.{◌≡◌, ℕ, Bool, true, false, List, length, map, replicate, refl, ◌∙◌, Option, Some, None}
use Rattle.std.specs.Prelude.{◌+◌, ◌&&◌, if◌then◌else◌, ℤ, pos, negsuc, ◌*ℤ◌, unsigned_abs, int_div, int_rem, option_map, unwrap_or}
use Rattle.std.proofs.lemmas.List.{length-map, length-replicate}
use Rattle.vhdl_values.specs.declared.scalar.Nine.{Nine}
use Rattle.vhdl_values.specs.declared.scalar.Nine.TheVariants.{X, Zero}
use Rattle.vhdl_values.specs.declared.kinds.Shift.{Shift}
use Rattle.vhdl_values.specs.Scalar.{x01_of}
use Rattle.vhdl_values.specs.Logic.{not_of}
use Rattle.vhdl_values.specs.Shifts.{shifted_of}
use Rattle.vhdl_values.specs.Numbers.{all_good, digits_of}
use Rattle.vhdl_values.proofs.Digits.{length-digits_of}
use Rattle.vhdl_values.proofs.Lengths.{length-shifted_of}
use Rattle.vhdl_numbers.specs.declared.kinds.Conversion.{Conversion}
use Rattle.vhdl_numbers.specs.declared.kinds.Conversion.TheVariants.{Cleaned, Within, Magnitude}
use Rattle.vhdl_numbers.specs.declared.kinds.SignedOperator.{SignedOperator}
use Rattle.vhdl_numbers.specs.declared.kinds.SignedOperator.TheVariants.{Multiply, Divide, Modulo, Remainder}
use Rattle.vhdl_numbers.specs.TwosComplement.{signed_number_of, signed_digits_of, signed_or_x}
use Rattle.vhdl_numbers.specs.Converted.{is_between, converted}
use Rattle.vhdl_numbers.specs.Operators.{are_divisible, int_mod, dividend_of, signed_of, signed_length}
use Rattle.vhdl_numbers.specs.Counts.{natural_of, shifted_by}

either : {A : Type 0} (b : Bool) (xs ys : List A) (n : ℕ) → length xs ≡ n → length ys ≡ n → length (if b then xs else ys) ≡ n
either true xs ys n h k = h
either false xs ys n h k = k

pub length-signed_digits_of : (len : ℕ) (n : ℤ) → length (signed_digits_of len n) ≡ len
length-signed_digits_of len (pos n) = length-digits_of len n
length-signed_digits_of len (negsuc n) = length-map (digits_of len n) not_of ∙ length-digits_of len n

pub length-signed_or_x : (good : Bool) (len : ℕ) (n : ℤ) → length (signed_or_x good len n) ≡ len
length-signed_or_x good len n = either good (signed_digits_of len n) (replicate len X) len (length-signed_digits_of len n) (length-replicate len X)

pub length-converted : (by : Conversion) (vs : List Nine) → length (converted by vs) ≡ length vs
length-converted Cleaned vs = either (all_good vs) (map x01_of vs) (replicate (length vs) Zero) (length vs) (length-map vs x01_of) (length-replicate (length vs) Zero)
length-converted (Within least greatest) vs = either (all_good vs && is_between least greatest (signed_number_of vs)) vs (replicate (length vs) X) (length vs) refl (length-replicate (length vs) X)
length-converted Magnitude vs = length-signed_or_x (all_good vs) (length vs) (pos (unsigned_abs (signed_number_of vs)))

pub length-signed_of : (op : SignedOperator) (a b : List Nine) → length (signed_of op a b) ≡ signed_length op (length a) (length b)
length-signed_of Multiply a b = length-signed_or_x (all_good a && all_good b) (length a + length b) (signed_number_of a *ℤ signed_number_of b)
length-signed_of Divide a b = length-signed_or_x (are_divisible a b) (length a) (int_div (signed_number_of a) (signed_number_of b))
length-signed_of Modulo a b = length-signed_or_x (are_divisible a b) (length b) (int_mod (dividend_of a) (signed_number_of b))
length-signed_of Remainder a b = length-signed_or_x (are_divisible a b) (length b) (int_rem (signed_number_of a) (signed_number_of b))

pub length-shifted_by : (by : Shift) (count vs : List Nine) → length (shifted_by by count vs) ≡ length vs
length-shifted_by by count vs = go (natural_of count)
  where
    go : (n : Option ℕ) → length (unwrap_or (option_map (λ n. shifted_of Zero by n vs) n) (replicate (length vs) X)) ≡ length vs
    go None = length-replicate (length vs) X
    go (Some n) = length-shifted_of Zero by n vs
