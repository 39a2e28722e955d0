use Rattle.std.proofs.Common.{drop}
use Rattle.std.specs.Prelude.{flat_map}
use Rattle.rtl_net.specs.Visits.{Tells, statement_leaves, branch_leaves, alternative_leaves}
use Rattle.rtl_net.proofs.walk.+statement.Given as goal

-- whatever is told from here on is told from the start
abbrev pub invariant-walk_statements-loop-statement : goal.invariant-walk_statements-loop-statement
invariant-walk_statements-loop-statement g l =
    (end : g.row.V.Denot) → Tells g.V.Visit.takes l.visitor (flat_map statement_leaves (drop l.statement-index l.statements)) end → Tells g.V.Visit.takes l.initial.visitor (flat_map statement_leaves l.statements) end

abbrev pub invariant-walk_branches-loop-branch : goal.invariant-walk_branches-loop-branch
invariant-walk_branches-loop-branch g l =
    (end : g.row.V.Denot) → Tells g.V.Visit.takes l.visitor (flat_map branch_leaves (drop l.branch-index l.branches)) end → Tells g.V.Visit.takes l.initial.visitor (flat_map branch_leaves l.branches) end

abbrev pub invariant-walk_alternatives-loop-alternative : goal.invariant-walk_alternatives-loop-alternative
invariant-walk_alternatives-loop-alternative g l =
    (end : g.row.V.Denot) → Tells g.V.Visit.takes l.visitor (flat_map alternative_leaves (drop l.alternative-index l.alternatives)) end → Tells g.V.Visit.takes l.initial.visitor (flat_map alternative_leaves l.alternatives) end
