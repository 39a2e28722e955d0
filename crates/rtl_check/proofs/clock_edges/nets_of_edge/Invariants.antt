use Rattle.std.proofs.Common.{◌≡◌, ℕ, take}
use Rattle.std.specs.List.{list_any}
use Rattle.rtl_body_facts.specs.Reading.{is_in}
use Rattle.rtl_check.specs.ClockEdges.{tests}
use Rattle.rtl_check.proofs.clock_edges.nets_of_edge.Given as goal

abbrev pub invariant-loop-kind : goal.invariant-loop-kind
invariant-loop-kind l = (n : ℕ) → is_in n l.nets.items ≡ list_any (tests l.edge n) (take l.kind-index l.kinds)
