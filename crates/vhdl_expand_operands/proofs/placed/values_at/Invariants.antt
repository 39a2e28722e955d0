use Rattle.std.proofs.Common.{◌≡◌, map, drop}
use Rattle.vhdl_expand_rules.specs.Elab.{each}
use Rattle.vhdl_expand_rules.specs.Aggregates.{run_value}
use Rattle.vhdl_expand_operands.specs.Operands.{operand_view}
use Rattle.vhdl_expand_operands.specs.Placings.{placed_view, run_view}
use Rattle.vhdl_expand_operands.proofs.Several.{behind}
use Rattle.vhdl_expand_operands.proofs.placed.values_at.Given as goal

-- those so far, and those that are left
abbrev pub invariant-loop-run : goal.invariant-loop-run
invariant-loop-run l =
    each (run_value l.fn.at (map placed_view l.placed)) (map run_view l.run-items)
    ≡ behind (map operand_view l.row.operands.items) (each (run_value l.fn.at (map placed_view l.placed)) (map run_view (drop l.run-index l.run-items)))
