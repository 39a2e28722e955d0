use Rattle.std.proofs.Common.{sym, ◌∙◌}
use Rattle.rtl_net.specs.Bodies.{test_view}
use Rattle.rtl_model.proofs.bodies.Leaves.{leaves_tell}
use Rattle.rtl_body_facts.proofs.Found.{told_any}
use Rattle.rtl_body_facts.proofs.search.test_looks_at.Goals as goal

pub returns : goal.returns
returns c = told_any _ _ _ _ c.of-search.ensures c.walk_test.ensures ∙ sym (leaves_tell.test_looks_are c.args.element (test_view c.args.test.now))
