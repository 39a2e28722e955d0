use Rattle.std.proofs.Common.{◌≡◌, ℕ, ◌≤◌, get_or, map, take}
use Rattle.vhdl_expand_tree.specs.declared.tree.Variable.{Variable}
use Rattle.vhdl_expand_tree.specs.Views.{variable_view}
use Rattle.vhdl_connect_processes.specs.Located.{net_variable, of_variable}
use Rattle.vhdl_connect_processes.proofs.process.variables.Given as goal

-- the others are as they were, and the first ones are taken
abbrev pub invariant-loop-i : goal.invariant-loop-i
invariant-loop-i l =
    ((k : ℕ) (d : Variable) → l.i ≤ k → get_or l.from k d ≡ get_or l.initial.from k d)
    × (map net_variable l.taken.items ≡ map (λ v. of_variable (variable_view v)) (take l.i l.initial.from))
