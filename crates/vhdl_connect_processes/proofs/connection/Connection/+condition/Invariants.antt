use Rattle.vhdl_connect_processes.specs.Connected.{test_link_view, test_link_in}
use Rattle.vhdl_connect_processes.proofs.Lists.{BecameTo}
use Rattle.vhdl_connect_processes.proofs.connection.Connection.+condition.Given as goal

-- the first links have become what is made of them, and the others are as they were
abbrev pub invariant-connect_tests-loop-i : goal.invariant-connect_tests-loop-i
invariant-connect_tests-loop-i l =
    goal.unvisited-connect_tests-loop-i l × BecameTo test_link_view (test_link_in l.self) l.i l.initial.links l.links
