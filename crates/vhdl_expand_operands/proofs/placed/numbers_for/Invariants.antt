use Rattle.std.proofs.Common.{◌≡◌, length, map, drop}
use Rattle.std.specs.Prelude.{ℤ}
use Rattle.vhdl_expand_rules.specs.declared.fault.ElabProblem.TheVariants as problem
use Rattle.vhdl_expand_rules.specs.Elab.{each, item_or}
use Rattle.vhdl_expand_rules.specs.Aggregates.{element_for, elements_for, placed_indexes}
use Rattle.vhdl_expand_operands.specs.Placings.{placed_view}
use Rattle.vhdl_expand_operands.proofs.Several.{behind}
use Rattle.vhdl_expand_operands.proofs.placed.numbers_for.Given as goal

-- those so far, and those that are left
abbrev pub invariant-loop-index : goal.invariant-loop-index
invariant-loop-index l =
    let xs = map placed_view l.placed in
    elements_for l.fn.at l.indexes xs
    ≡ behind l.numbers.items (each (λ (i : ℤ). item_or (problem.Length (length (placed_indexes xs)) (length l.indexes)) l.fn.at (element_for 0 xs i)) (drop l.index-index l.indexes))
