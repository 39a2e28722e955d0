use Rattle.std.proofs.Common.{◌++◌, length, map, sym, ap, ◌∙◌, arith}
use Rattle.vhdl_expand_rules.specs.Aggregates.{runs}
use Rattle.vhdl_expand_operands.specs.Placings.{run_view}
use Rattle.vhdl_expand_operands.specs.declared.placed.Neighbours.{Neighbours}
use Rattle.std.specs.Prelude.{List}
use Rattle.vhdl_expand_operands.proofs.Runs.{runs_on, runs_of}
use Rattle.vhdl_expand_operands.proofs.placed.runs.Goals as goal

pub loop-number-init : goal.loop-number-init
loop-number-init c =
    let first = c.in-Some.first.now in
    let rest = c.in-Some.rest.now in
    (ap runs c.in-Some.ensures.cases.0 ∙ runs_of first rest ∙ ap (λ (rs : List Neighbours). map run_view rs ++ runs_on first 1 rest) (sym c.new-runs.ensures.items), omega arith)

pub overflow_add-last : goal.overflow_add-last
overflow_add-last c = omega (arith, c.loop-number.invariant.1, c.requires, ap length c.in-Some.ensures.cases.0)
