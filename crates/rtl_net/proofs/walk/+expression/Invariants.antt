use Rattle.std.proofs.Common.{drop}
use Rattle.std.specs.Prelude.{flat_map}
use Rattle.rtl_net.specs.Visits.{Tells, link_leaves}
use Rattle.rtl_net.proofs.walk.+expression.Given as goal

-- whatever is told from here on is told from the start
abbrev pub invariant-walk_links-loop-link : goal.invariant-walk_links-loop-link
invariant-walk_links-loop-link g l =
    (end : g.row.V.Denot) → Tells g.V.Visit.takes l.visitor (flat_map link_leaves (drop l.link-index l.links)) end → Tells g.V.Visit.takes l.initial.visitor (flat_map link_leaves l.links) end
