use Rattle.std.proofs.Common.{◌≡◌, drop}
use Rattle.rtl_model.specs.bodies.Body.{followed_by}
use Rattle.rtl_net.specs.Bodies.{statements_of}
use Rattle.rtl_kept_bodies.specs.Steps.{recall_all}
use Rattle.rtl_kept_bodies.proofs.edge.recall.Given as goal

abbrev pub invariant-loop-variable : goal.invariant-loop-variable
invariant-loop-variable l =
    followed_by (statements_of l.statements.items) (recall_all (drop l.variable-index l.kept)) ≡ followed_by (statements_of l.initial.statements.items) (recall_all l.kept)
