-- Products, quotients and remainders of numbers in two's complement (numeric_std: "*" A.16, "/" A.22, "rem" A.28,
-- "mod" A.34; of integers IEEE 1076-2008, 9.2.7). Where an element isn't good, each element of the result is X. So it
-- is where a number is divided by 0 (own: the standard has an error there).
use Rattle.std.specs.Prelude.{ℕ, ◌+◌, ◌==◌, Bool, not, ◌&&◌, if◌then◌else◌, List, length}
use Rattle.std.specs.Prelude.{ℤ, pos, ◌+ℤ◌, ◌*ℤ◌, unsigned_abs, int_div, int_rem}
use Rattle.vhdl_values.specs.declared.scalar.Nine.{Nine}
use Rattle.vhdl_values.specs.declared.scalar.Nine.TheVariants.{Zero, H}
use Rattle.vhdl_values.specs.Scalar.{is_same}
use Rattle.vhdl_values.specs.Numbers.{all_good, number_of}
use Rattle.vhdl_values.specs.Shifts.{leftmost}
use Rattle.vhdl_numbers.specs.declared.kinds.SignedOperator.{SignedOperator}
use Rattle.vhdl_numbers.specs.declared.kinds.SignedOperator.TheVariants.{Multiply, Divide, Modulo, Remainder}
use Rattle.vhdl_numbers.specs.TwosComplement.{signed_number_of, signed_or_x}

-- as long as both together
abbrev pub signed_product_of : List Nine → List Nine → List Nine
signed_product_of a b =
    signed_or_x (all_good a && all_good b) (length a + length b) (signed_number_of a *ℤ signed_number_of b)

-- two numbers, of which the second isn't 0
abbrev pub are_divisible : List Nine → List Nine → Bool
are_divisible a b = all_good a && all_good b && not (number_of b == 0)

-- rounded toward 0, and as long as the dividend
abbrev pub quotient_of : List Nine → List Nine → List Nine
quotient_of a b = signed_or_x (are_divisible a b) (length a) (int_div (signed_number_of a) (signed_number_of b))

-- what the quotient leaves, with the dividend's sign, and as long as the divisor
abbrev pub remainder_of : List Nine → List Nine → List Nine
remainder_of a b = signed_or_x (are_divisible a b) (length b) (int_rem (signed_number_of a) (signed_number_of b))

-- m less a multiple of n, with the sign of n: the remainder with n added, less n again where that is too much
abbrev pub int_mod : ℤ → ℤ → ℤ
int_mod m n = int_rem (int_rem m n +ℤ n) n

-- The package's "mod" takes a dividend for negative where its leftmost element is 1: of one that begins with H it takes
-- the number without its sign.
abbrev pub dividend_of : List Nine → ℤ
dividend_of vs =
    if is_same (leftmost Zero vs) H then pos (unsigned_abs (signed_number_of vs)) else signed_number_of vs

-- with the divisor's sign, and as long
abbrev pub modulus_of : List Nine → List Nine → List Nine
modulus_of a b = signed_or_x (are_divisible a b) (length b) (int_mod (dividend_of a) (signed_number_of b))

-- ---- all four

abbrev pub signed_of : SignedOperator → List Nine → List Nine → List Nine
signed_of Multiply a b = signed_product_of a b
signed_of Divide a b = quotient_of a b
signed_of Modulo a b = modulus_of a b
signed_of Remainder a b = remainder_of a b

-- how long it is, of vectors of these lengths
abbrev pub signed_length : SignedOperator → (left right : ℕ) → ℕ
signed_length Multiply left right = left + right
signed_length Divide left right = left
signed_length Modulo left right = right
signed_length Remainder left right = right
