use Rattle.std.proofs.Common.{ap}
use Rattle.rtl_model.specs.bodies.Leaves.{test_leaves}
use Rattle.rtl_net.specs.declared.body.Test.{Test}
use Rattle.rtl_net.specs.Bodies.{test_view}
use Rattle.rtl_net.specs.Visits.{test_link_leaves}
use Rattle.rtl_net.proofs.Walks.{tells_both, tells_goes, combined_leaves}
use Rattle.rtl_net.proofs.walk.+condition.Goals as goal

pub walk_test-returns-in-Combined : goal.walk_test-returns-in-Combined
walk_test-returns-in-Combined g t c =
    tells_both g.V.Visit.takes _ _ _ _ _ _ (combined_leaves c.args.test.now c.in-Combined.first c.in-Combined.rest c.in-Combined.is)
    (rw c.deref-in-Combined.ensures at c.walk_test-in-Combined.ensures) (rw c.deref-in-Combined-2.ensures.value at c.walk_test_links.ensures)

pub walk_test-returns-in-Equal : goal.walk_test-returns-in-Equal
walk_test-returns-in-Equal g t c =
    tells_both g.V.Visit.takes _ _ _ _ _ _ (ap (λ (x : Test). test_leaves (test_view x)) c.in-Equal.is) c.walk_value.ensures c.walk_value-in-Equal.ensures

pub walk_test-returns-in-Unequal : goal.walk_test-returns-in-Unequal
walk_test-returns-in-Unequal g t c =
    tells_both g.V.Visit.takes _ _ _ _ _ _ (ap (λ (x : Test). test_leaves (test_view x)) c.in-Unequal.is) c.walk_value-in-Unequal.ensures c.walk_value-in-Unequal-2.ensures

pub walk_test-returns-in-Compared : goal.walk_test-returns-in-Compared
walk_test-returns-in-Compared g t c =
    tells_both g.V.Visit.takes _ _ _ _ _ _ (ap (λ (x : Test). test_leaves (test_view x)) c.in-Compared.is) c.walk_expr-in-Compared.ensures c.walk_expr-in-Compared-2.ensures

pub walk_test_links-loop-link-preserved : goal.walk_test_links-loop-link-preserved
walk_test_links-loop-link-preserved g t c = λ end.
    tells_goes g.V.Visit.takes test_link_leaves _ _ c.loop-link.link-index _ _ end c.link-item.result c.loop-link-test.true c.link-item.is c.walk_test.ensures (c.loop-link.invariant end)
