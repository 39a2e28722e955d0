use Rattle.vhdl_connect_processes.specs.Connected.{link_view, link_in}
use Rattle.vhdl_connect_processes.proofs.Lists.{BecameTo}
use Rattle.vhdl_connect_processes.proofs.connection.Connection.+expression.Given as goal

-- the first links have become what is made of them, and the others are as they were
abbrev pub invariant-connect_links-loop-i : goal.invariant-connect_links-loop-i
invariant-connect_links-loop-i l = goal.unvisited-connect_links-loop-i l × BecameTo link_view (link_in l.self) l.i l.initial.links l.links
