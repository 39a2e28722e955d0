use Rattle.std.proofs.Common.{ap, sym, ◌∙◌}
use Rattle.rtl_net.specs.declared.body.Test.{Test}
use Rattle.rtl_net.specs.Bodies.{test_view}
use Rattle.rtl_looks.specs.Walks.{decided_of}
use Rattle.rtl_looks.proofs.Decided.{decided_alone, decided_chain}
use Rattle.rtl_looks.proofs.tests.+decided.Goals as goal

pub returns-then-is_empty : goal.returns-then-is_empty
returns-then-is_empty t c =
    let i = c.in-Combined in
    c.decided.ensures ∙ (ap (λ (x : Test). decided_of (test_view x)) c.deref.ensures ∙ decided_alone c.args.test.now i.first i.rest i.is (sym c.is_empty.ensures ∙ c.if-is_empty.true))

pub returns-else-is_empty : goal.returns-else-is_empty
returns-else-is_empty t c = let i = c.in-Combined in decided_chain c.args.test.now i.first i.rest i.is (sym c.is_empty.ensures ∙ c.if-is_empty.false)
