-- How many binary digits hold numbers.
use Rattle.std.specs.Prelude.{ℕ, suc, max, length, ℤ, pos, negsuc}
use Rattle.std.specs.Int.Digits.{digits_of}

-- the fewest that hold n, none of 0
abbrev pub places : ℕ → ℕ
places n = length (digits_of 2 n)

-- the fewest that hold n, at least one
abbrev pub binary_digits : ℕ → ℕ
binary_digits n = max 1 (places n)

-- a number, of one below 0 that which has all its digits turned round
abbrev pub without_sign : ℤ → ℕ
without_sign (pos n) = n
without_sign (negsuc n) = n

-- the fewest that hold each number from the least to the greatest: without a sign where none is below 0, else in two's
-- complement, one of them for the sign
abbrev pub digits_between : (least greatest : ℤ) → ℕ
digits_between (pos least) greatest = binary_digits (without_sign greatest)
digits_between (negsuc least) greatest = suc (max (places least) (places (without_sign greatest)))
