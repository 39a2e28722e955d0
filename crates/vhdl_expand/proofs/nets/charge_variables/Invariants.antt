use Rattle.std.proofs.Common.{map, drop}
use Rattle.vhdl_expand_tree.specs.Costs.{spent, variables_costs}
use Rattle.vhdl_expand_tree.specs.Views.{budget_view, variable_view}
use Rattle.vhdl_expand_tree.proofs.Alike.{Alike}
use Rattle.vhdl_expand.specs.Unrolled.{paid, together}
use Rattle.vhdl_expand.proofs.Paying.{elements_costs}
use Rattle.vhdl_expand.proofs.nets.charge_variables.Given as goal

-- those that are left, paid from what is left, are all that were there
abbrev pub invariant-loop-variable : goal.invariant-loop-variable
invariant-loop-variable l =
    Alike (spent l.at (budget_view l.fn.budget) (variables_costs (map variable_view l.variables)))
    (paid (budget_view l.budget) (together elements_costs (map variable_view (drop l.variable-index l.variables))))
