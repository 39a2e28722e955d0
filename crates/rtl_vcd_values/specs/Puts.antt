-- The characters of values, put many at a time behind other bytes.
use Rattle.std.specs.Prelude.{◌≡◌, ℕ, ◌+◌, ◌*◌, ◌/◌, ◌%◌, ◌<◌, ◌++◌, Bool, not, List, length, map, take}
use Rattle.std.specs.Str.{bytes_eq}
use Rattle.rtl_vcd_values.specs.Values.{character}

-- a value without the bit in which L and H differ from 0 and 1
abbrev pub plain : (value : ℕ) → ℕ
plain value = value / 8 * 8 + value % 4

-- it prints as 0 or 1
abbrev pub PrintsDigit : (value : ℕ) → Type 0
PrintsDigit value = character value < 50

-- Behind the first so many bytes of a room stand the characters of the new values, and it is told whether the old ones
-- print otherwise. What stands behind these characters is anything.
pub record IsPut (room put : List ℕ) (from : ℕ) (old new : List ℕ) (is_other : Bool) : Type 0 where
  pub text : take (from + length new) put ≡ take from room ++ map character new
  pub long : length put ≡ length room
  pub other : is_other ≡ not (bytes_eq (map character old) (map character new))
