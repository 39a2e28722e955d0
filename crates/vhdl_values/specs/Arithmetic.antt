-- Sums, differences and products of unsigned vectors (numeric_std: "+" A.3 and A.5, "-" A.9 and A.11,
-- "*" A.15 and A.17). Where an element isn't good, each element of the result is X.
use Rattle.std.specs.Prelude.{ℕ, ◌+◌, ◌-◌, ◌*◌, ◌^◌, Bool, ◌&&◌, if◌then◌else◌, List, length, replicate, max}
use Rattle.vhdl_values.specs.declared.scalar.Nine.{Nine}
use Rattle.vhdl_values.specs.declared.scalar.Nine.TheVariants.{X}
use Rattle.vhdl_values.specs.Numbers.{all_good, number_of, digits_of}

-- a number modulo 2 ^ len as a vector of that length, or all X where an operand is no number
abbrev pub number_or_x : Bool → ℕ → ℕ → List Nine
number_or_x good len n = if good then digits_of len n else replicate len X

-- as long as the longer one
abbrev pub sum_of : List Nine → List Nine → List Nine
sum_of a b = number_or_x (all_good a && all_good b) (max (length a) (length b)) (number_of a + number_of b)

-- as long as the longer one, and below 0 it goes on from 2 ^ that length
abbrev pub difference_of : List Nine → List Nine → List Nine
difference_of a b =
    let len = max (length a) (length b)
    in number_or_x (all_good a && all_good b) len (number_of a + (2 ^ len - number_of b))

-- as long as both together
abbrev pub product_of : List Nine → List Nine → List Nine
product_of a b = number_or_x (all_good a && all_good b) (length a + length b) (number_of a * number_of b)
