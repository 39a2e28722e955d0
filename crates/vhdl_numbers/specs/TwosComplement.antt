-- Vectors as numbers in two's complement (IEEE 1076-2008, 16.8: package numeric_std, type signed).
use Rattle.std.specs.Prelude.{ℕ, ◌*◌, ◌^◌, ◌==◌, Bool, if◌then◌else◌, List, [], ◌∷◌, length, replicate, ℤ, pos, negsuc, ◌-ℤ◌}
use Rattle.vhdl_values.specs.declared.scalar.Nine.{Nine}
use Rattle.vhdl_values.specs.declared.scalar.Nine.TheVariants.{X, Zero}
use Rattle.vhdl_values.specs.Logic.{not_of_all}
use Rattle.vhdl_values.specs.Numbers.{bit_of, number_of, digits_of}
use Rattle.vhdl_values.specs.Shifts.{leftmost}

-- The number of a good vector: its leftmost element, where it is 1 or H, counts -2 ^ k, where k elements stand to its
-- right, and these count as in an unsigned vector.
abbrev pub signed_number_of : List Nine → ℤ
signed_number_of [] = pos 0
signed_number_of (v ∷ vs) = pos (number_of vs) -ℤ pos (bit_of v * 2 ^ length vs)

abbrev pub is_negative : List Nine → Bool
is_negative vs = bit_of (leftmost Zero vs) == 1

-- The last `len` binary digits of a number, which stand for the number modulo 2 ^ len (TO_SIGNED, D.4): of a negative
-- number n they are the inverted digits of -(n + 1).
abbrev pub signed_digits_of : ℕ → ℤ → List Nine
signed_digits_of len (pos n) = digits_of len n
signed_digits_of len (negsuc n) = not_of_all (digits_of len n)

-- a number modulo 2 ^ len as a vector of that length, or all X where there is none
abbrev pub signed_or_x : Bool → ℕ → ℤ → List Nine
signed_or_x good len n = if good then signed_digits_of len n else replicate len X
