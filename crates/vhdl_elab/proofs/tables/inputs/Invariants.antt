use Rattle.std.proofs.Common.{◌≡◌, ◌++◌, drop}
use Rattle.vhdl_elab.specs.Tables.{inputs_in}
use Rattle.vhdl_elab.proofs.tables.inputs.Given as goal

-- the inputs so far, and those of the elements that are left
abbrev pub invariant-loop-element : goal.invariant-loop-element
invariant-loop-element l = inputs_in l.elements ≡ l.inputs.items ++ inputs_in (drop l.element-index l.elements)
