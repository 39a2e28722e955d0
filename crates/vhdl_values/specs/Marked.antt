-- What the logical operators look at of a vector: which values they take for 1, for 0 and for U.
use Rattle.std.specs.Prelude.{◌≡◌, ℕ, ◌≤◌, Bool, List, length}
use Rattle.vhdl_values.specs.declared.kinds.Logic.{Logic}
use Rattle.vhdl_values.specs.declared.scalar.Nine.{Nine}
use Rattle.vhdl_values.specs.declared.scalar.Nine.TheVariants.{U, Zero, One}
use Rattle.vhdl_values.specs.declared.stripped.Stripped.{Stripped}
use Rattle.vhdl_values.specs.Scalar.{is_same}
use Rattle.vhdl_values.specs.Logic.{strip, logic_of_all}
use Rattle.vhdl_values.specs.Planes.{marks}

abbrev pub is_one : Nine → Bool
is_one v = is_same (strip v) One

abbrev pub is_zero : Nine → Bool
is_zero v = is_same (strip v) Zero

abbrev pub is_unset : Nine → Bool
is_unset v = is_same (strip v) U

-- the words mark just those values, and the vector fits a word
pub record IsMarked (vs : List Nine) (ones zeros unset : ℕ) : Type 0 where
  pub room : length vs ≤ 64
  pub is_ones : ones ≡ marks is_one vs
  pub is_zeros : zeros ≡ marks is_zero vs
  pub is_unsets : unset ≡ marks is_unset vs

abbrev pub IsMarkedBy : Stripped → List Nine → Type 0
IsMarkedBy words vs = IsMarked vs words.ones words.zeros words.unset

-- of words that mark two vectors of one length, the words that mark an operator's results
abbrev pub Combines : Logic → Stripped → Stripped → Stripped → Type 0
Combines kind left right words =
    (vs ws : List Nine) → IsMarkedBy left vs → IsMarkedBy right ws
    → length vs ≡ length ws → IsMarkedBy words (logic_of_all kind vs ws)
