use Rattle.std.proofs.Common.{drop}
use Rattle.vhdl_expand_processes.specs.Bodies.{statement_names, branch_names, alternative_names}
use Rattle.vhdl_expand_processes.proofs.Gathering.{Left}
use Rattle.vhdl_expand_processes.proofs.bodies.+bodies.Given as goal

-- those so far, and those that are left
abbrev pub invariant-of_statements-loop-item : goal.invariant-of_statements-loop-item
invariant-of_statements-loop-item l = Left (statement_names l.sought) l.fn.found l.list l.found (drop l.item-index l.list)

abbrev pub invariant-of_branches-loop-item : goal.invariant-of_branches-loop-item
invariant-of_branches-loop-item l = Left (branch_names l.sought) l.fn.found l.list l.found (drop l.item-index l.list)

abbrev pub invariant-of_alternatives-loop-item : goal.invariant-of_alternatives-loop-item
invariant-of_alternatives-loop-item l = Left (alternative_names l.sought) l.fn.found l.list l.found (drop l.item-index l.list)
