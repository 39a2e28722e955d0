use Rattle.std.proofs.Common.{List, sym, ap, ◌∙◌}
use Rattle.std.proofs.lemmas.Result.{IfOk-weaker}
use Rattle.rtl_model.specs.bodies.Looks.{test_looks}
use Rattle.rtl_net.specs.declared.body.Test.{Test}
use Rattle.rtl_net.specs.declared.body.TestLink.{TestLink}
use Rattle.rtl_net.specs.Bodies.{test_view, test_links_of}
use Rattle.rtl_net.proofs.Rows.{view_combined}
use Rattle.rtl_looks.proofs.Operands.{as_sums, of_nothing, of_net, of_event, test_links_more, test_chained}
use Rattle.rtl_looks.proofs.tests.+condition.Goals as goal

pub chained_look-loop-link-preserved : goal.chained_look-loop-link-preserved
chained_look-loop-link-preserved t c =
    let l = c.loop-link in
    test_links_more c.args.rest.now l.link-index c.link-item.result c.loop-link-test.true c.link-item.is l.invariant c.in_ok-operand.ensures c.in_ok-look.ensures

pub test_look-returns-in-Decided : goal.test_look-returns-in-Decided
test_look-returns-in-Decided t c = as_sums _ (λ so_far. sym (ap (λ (x : Test). test_looks so_far (test_view x)) c.in-Decided.is)) (of_nothing c.args.elements.now.looks.items c.args.hubs.now.hubs.items)

pub test_look-returns-in-Level : goal.test_look-returns-in-Level
test_look-returns-in-Level t c = as_sums _ (λ so_far. sym (ap (λ (x : Test). test_looks so_far (test_view x)) c.in-Level.is)) (of_net c.args.elements.now.looks.items c.args.hubs.now.hubs.items c.in-Level.net)

pub test_look-returns-in-Rising : goal.test_look-returns-in-Rising
test_look-returns-in-Rising t c = as_sums _ (λ so_far. sym (ap (λ (x : Test). test_looks so_far (test_view x)) c.in-Rising.is)) (of_event c.args.elements.now.looks.items c.args.hubs.now.hubs.items c.in-Rising.net)

pub test_look-returns-in-Falling : goal.test_look-returns-in-Falling
test_look-returns-in-Falling t c = as_sums _ (λ so_far. sym (ap (λ (x : Test). test_looks so_far (test_view x)) c.in-Falling.is)) (of_event c.args.elements.now.looks.items c.args.hubs.now.hubs.items c.in-Falling.net)

pub test_look-returns-in-Event : goal.test_look-returns-in-Event
test_look-returns-in-Event t c = as_sums _ (λ so_far. sym (ap (λ (x : Test). test_looks so_far (test_view x)) c.in-Event.is)) (of_event c.args.elements.now.looks.items c.args.hubs.now.hubs.items c.in-Event.net)

pub test_look-returns-in_ok-look-in-Combined : goal.test_look-returns-in_ok-look-in-Combined
test_look-returns-in_ok-look-in-Combined t c =
    let i = c.in-Combined in
    let first = test_view c.deref-in-Combined.result.now in
    IfOk-weaker c.chained_look.result _ _
    (λ v h. as_sums _ (λ so_far. ap (λ (x : Test). test_looks so_far (test_links_of (test_view x) c.deref-in-Combined-2.result.now)) c.deref-in-Combined.ensures
    ∙ (ap (λ (ls : List TestLink). test_looks so_far (test_links_of (test_view i.first.value) ls)) c.deref-in-Combined-2.ensures.value
    ∙ sym (ap (λ (x : Test). test_looks so_far (test_view x)) i.is ∙ ap (test_looks so_far) (view_combined i.first i.rest))))
    (test_chained first c.deref-in-Combined-2.result.now c.in_ok-look-in-Combined.ensures h))
    c.chained_look.ensures
