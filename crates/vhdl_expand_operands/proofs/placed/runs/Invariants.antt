use Rattle.std.proofs.Common.{◌≡◌, ◌+◌, ◌≤◌, ◌++◌, map, drop}
use Rattle.vhdl_expand_rules.specs.Aggregates.{runs}
use Rattle.vhdl_expand_operands.specs.Placings.{run_view}
use Rattle.vhdl_expand_operands.proofs.Runs.{runs_on}
use Rattle.vhdl_expand_operands.proofs.placed.runs.Given as goal

-- those so far, the last neighbours with those that are left behind them; these are no more than there were numbers
abbrev pub invariant-loop-number : goal.invariant-loop-number
invariant-loop-number l =
    (runs l.fn.numbers ≡ map run_view l.runs.items ++ runs_on l.last.number l.last.count (drop l.number-index l.rest)) × (l.last.count ≤ l.number-index + 1)
