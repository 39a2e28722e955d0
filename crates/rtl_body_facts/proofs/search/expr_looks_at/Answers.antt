use Rattle.std.proofs.Common.{sym, ◌∙◌}
use Rattle.rtl_model.specs.bodies.Body.{elements}
use Rattle.rtl_model.proofs.bodies.Leaves.{leaves_tell}
use Rattle.rtl_net.specs.Bodies.{expr_view}
use Rattle.rtl_body_facts.proofs.search.expr_looks_at.Goals as goal

pub returns : goal.returns
returns c = c.in_expr.ensures ∙ sym (leaves_tell.value_looks_are c.args.element (elements (expr_view c.args.expr.now)))
