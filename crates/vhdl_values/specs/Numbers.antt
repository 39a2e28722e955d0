-- Unsigned vectors as numbers (IEEE 1076-2008, 16.8: package numeric_std, type unsigned, leftmost element
-- first; 16.8.2, interpretation of the values: 0 and L stand for 0, 1 and H for 1).
use Rattle.std.specs.Prelude.{ℕ, ◌+◌, ◌*◌, ◌/◌, ◌%◌, ◌^◌, Bool, true, false, if◌then◌else◌, ◌==◌, List, [], ◌∷◌, length}
use Rattle.std.specs.List.{list_all}
use Prim.Native.Nat.{suc, zero}
use Rattle.vhdl_values.specs.declared.scalar.Nine.{Nine}
use Rattle.vhdl_values.specs.declared.scalar.Nine.TheVariants.{Zero, One, L, H}

-- whether a value stands for a binary digit
abbrev pub is_good : Nine → Bool
is_good Zero = true
is_good L = true
is_good One = true
is_good H = true
is_good _ = false

-- whether each element stands for a digit
abbrev pub all_good : List Nine → Bool
all_good vs = list_all is_good vs

-- the digit that a value stands for, 0 where it stands for none
abbrev pub bit_of : Nine → ℕ
bit_of One = 1
bit_of H = 1
bit_of _ = 0

-- the number of a good vector: the sum of 2 ^ k over the elements that are 1 or H, k counted from 0 at the right
abbrev pub number_of : List Nine → ℕ
number_of [] = 0
number_of (v ∷ vs) = bit_of v * 2 ^ length vs + number_of vs

-- the value of a digit
abbrev pub digit_of : ℕ → Nine
digit_of n = if n == 0 then Zero else One

-- the last `len` binary digits of a number, which stand for the number modulo 2 ^ len (TO_UNSIGNED, D.3)
unfoldable pub digits_of : ℕ → ℕ → List Nine
digits_of zero n = []
digits_of (suc k) n = digit_of (n / 2 ^ k % 2) ∷ digits_of k n
