use Rattle.std.proofs.Common.{ap, sym, ◌∙◌}
use Rattle.rtl_net.specs.declared.body.Test.{Test}
use Rattle.rtl_net.specs.Bodies.{test_view}
use Rattle.rtl_body_facts.specs.Timing.{atom_of}
use Rattle.rtl_body_facts.proofs.Timings.{top_alone, top_chain}
use Rattle.rtl_body_facts.proofs.kinds.+top_of.Goals as goal

pub returns-then-is_empty : goal.returns-then-is_empty
returns-then-is_empty t c =
    let i = c.in-Combined in
    c.top_of.ensures ∙ (ap (λ (x : Test). atom_of (test_view x)) c.deref.ensures ∙ top_alone c.args.test.now i.first i.rest i.is (sym c.is_empty.ensures ∙ c.if-is_empty.true))

pub returns-else-is_empty : goal.returns-else-is_empty
returns-else-is_empty t c = let i = c.in-Combined in top_chain c.args.test.now i.first i.rest i.is (sym c.is_empty.ensures ∙ c.if-is_empty.false)
