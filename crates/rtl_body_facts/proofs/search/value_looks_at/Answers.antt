use Rattle.std.proofs.Common.{sym, ◌∙◌}
use Rattle.rtl_net.specs.Bodies.{value_view}
use Rattle.rtl_model.proofs.bodies.Leaves.{leaves_tell}
use Rattle.rtl_body_facts.proofs.search.value_looks_at.Goals as goal

pub returns : goal.returns
returns c = c.in_value.ensures ∙ sym (leaves_tell.value_looks_are c.args.element (value_view c.args.value.now))
