use Rattle.rtl_net.specs.Bodies.{statement_view}
use Rattle.vhdl_connect_processes.specs.Connected.{statement_in, branch_view, branch_in, alternative_view, alternative_in}
use Rattle.vhdl_connect_processes.proofs.Lists.{BecameTo}
use Rattle.vhdl_connect_processes.proofs.connection.Connection.+statement.Given as goal

-- the first ones have become what is made of them, and the others are as they were
abbrev pub invariant-connect_alternatives-loop-i : goal.invariant-connect_alternatives-loop-i
invariant-connect_alternatives-loop-i l =
    goal.unvisited-connect_alternatives-loop-i l × BecameTo alternative_view (alternative_in l.self) l.i l.initial.alternatives l.alternatives

abbrev pub invariant-connect_branches-loop-i : goal.invariant-connect_branches-loop-i
invariant-connect_branches-loop-i l =
    goal.unvisited-connect_branches-loop-i l × BecameTo branch_view (branch_in l.self) l.i l.initial.branches l.branches

abbrev pub invariant-connect_statements-loop-i : goal.invariant-connect_statements-loop-i
invariant-connect_statements-loop-i l =
    goal.unvisited-connect_statements-loop-i l × BecameTo statement_view (statement_in l.self) l.i l.initial.statements l.statements
