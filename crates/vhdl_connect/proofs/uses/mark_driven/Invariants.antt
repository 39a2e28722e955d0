use Rattle.std.proofs.Common.{ℕ, List, ◌++◌, take}
use Rattle.vhdl_connect.specs.Uses.{AreUses}
use Rattle.vhdl_connect.proofs.uses.mark_driven.Given as goal

abbrev pub invariant-loop-element : goal.invariant-loop-element
invariant-loop-element l = (driven read : List ℕ) → AreUses driven read l.initial.uses → AreUses (driven ++ take l.element-index l.elements) read l.uses
