use Rattle.std.proofs.Common.{None, refl, ap, sym, ◌∙◌}
use Rattle.rtl_net.specs.declared.body.Test.{Test}
use Rattle.rtl_net.specs.Bodies.{test_view}
use Rattle.rtl_process_kinds.specs.BodyViews.{asked_by_test}
use Rattle.rtl_process_kinds.proofs.BodyParts.{test_alone, test_chain}
use Rattle.rtl_process_kinds.proofs.reset_tests.+asked_by_test.Goals as goal

pub returns-then-is_empty : goal.returns-then-is_empty
returns-then-is_empty t c =
    let i = c.in-Combined in
    c.asked_by_test.ensures ∙ ap (λ (x : Test). asked_by_test (test_view x)) c.deref.ensures ∙ test_alone asked_by_test c.args.test.now i.first i.rest i.is (sym c.is_empty.ensures ∙ c.if-is_empty.true)

pub returns-else-is_empty : goal.returns-else-is_empty
returns-else-is_empty t c =
    let i = c.in-Combined in test_chain asked_by_test c.args.test.now i.first i.rest i.is None (λ o s t. refl) (sym c.is_empty.ensures ∙ c.if-is_empty.false)
