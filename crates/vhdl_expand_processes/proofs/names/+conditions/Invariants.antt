use Rattle.std.proofs.Common.{drop}
use Rattle.vhdl_expand_processes.specs.Names.{test_link_names}
use Rattle.vhdl_expand_processes.proofs.Gathering.{Left}
use Rattle.vhdl_expand_processes.proofs.names.+conditions.Given as goal

-- those so far, and those that are left
abbrev pub invariant-of_test_links-loop-item : goal.invariant-of_test_links-loop-item
invariant-of_test_links-loop-item l = Left test_link_names l.fn.found l.list l.found (drop l.item-index l.list)
