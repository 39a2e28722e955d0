use Rattle.std.proofs.Common.{List, sym, ap, ◌∙◌}
use Rattle.std.proofs.lemmas.List.{take_all}
use Rattle.rtl_net.specs.Bodies.{test_view, test_links_of}
use Rattle.rtl_net.specs.declared.body.Test.{Test}
use Rattle.rtl_net.specs.declared.body.TestLink.{TestLink}
use Rattle.rtl_body_facts.proofs.Timings.{combined_is}
use Rattle.rtl_mixed_reasons.specs.Edges.{joined, joined_by}
use Rattle.rtl_mixed_reasons.proofs.Branching.{start_view, links-more}
use Rattle.rtl_mixed_reasons.proofs.edges.+joined.Goals as goal

pub loop-link-init : goal.loop-link-init
loop-link-init t c =
    c.joined-all.ensures ∙ ap (λ (x : Test). joined c.args.clock (test_view x)) c.deref.ensures
    ∙ sym (ap (λ (x : Test). joined c.args.clock (start_view x)) c.in-Combined.is)

pub loop-link-preserved : goal.loop-link-preserved
loop-link-preserved t c =
    let l = c.loop-link in
    let x = c.link-item.result in
    c.joined_by-all.ensures
    ∙ ((λ i. joined_by x.operator (l.invariant i) (c.joined.ensures i))
    ∙ sym (ap (joined c.args.clock) (links-more (start_view c.args.test.now) c.deref-link-items.result.now l.link-index x c.loop-link-test.true c.link-item.is)))

pub returns-after-loop-link : goal.returns-after-loop-link
returns-after-loop-link t c =
    let l = c.loop-link in
    let i = c.in-Combined in
    let x = c.args.test.now in
    l.invariant
    ∙ (ap (λ (ls : List TestLink). joined c.args.clock (test_links_of (start_view x) ls)) (take_all l.link-index c.deref-link-items.result.now c.loop-link-test.false ∙ c.deref-link-items.ensures.value)
    ∙ (ap (λ (y : Test). joined c.args.clock (test_links_of (start_view y) i.rest.items)) i.is
    ∙ sym (ap (joined c.args.clock) (combined_is x i.first i.rest i.is))))
