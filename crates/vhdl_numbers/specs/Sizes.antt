-- How the code keeps a number: by its size and its sign.
use Rattle.std.specs.Prelude.{ℕ, Bool, true, false, ℤ, pos, neg_ℤ}
use Rattle.vhdl_numbers.specs.declared.wholes.Whole.{Whole}

abbrev pub with_sign : (negative : Bool) → (size : ℕ) → ℤ
with_sign false size = pos size
with_sign true size = neg_ℤ (pos size)

abbrev pub integer_of : Whole → ℤ
integer_of whole = with_sign whole.negative whole.size
