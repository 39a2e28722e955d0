-- The parameter of a loop or generate in its turns (IEEE 1076-2008, 10.10 and 11.9).
use Rattle.std.specs.Prelude.{ℕ, ℤ, pos, ◌+ℤ◌, ◌-ℤ◌, ◌<◌}
use mir.Val.{SFits}
use Rattle.std.specs.Int.{w32}
use Rattle.vhdl_tree.specs.declared.operator.Direction.{Direction}
use Rattle.vhdl_tree.specs.declared.operator.Direction.TheVariants.{To, Downto}

-- its value in a turn, counted from 0
abbrev pub parameter : Direction → (first : ℤ) → (turn : ℕ) → ℤ
parameter To x k = x +ℤ pos k
parameter Downto x k = x -ℤ pos k

-- its value is a word in each of so many turns
abbrev pub AreWords : Direction → (first : ℤ) → (count : ℕ) → Type 0
AreWords direction first count = (k : ℕ) → k < count → SFits w32 (parameter direction first k)
