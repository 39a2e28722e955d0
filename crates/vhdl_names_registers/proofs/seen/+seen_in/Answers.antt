use Rattle.std.proofs.Common.{List, sym, ap, ◌∙◌}
use Rattle.std.specs.Prelude.{option_map}
use Rattle.std.proofs.lemmas.List.{take_all}
use Rattle.vhdl_names_trees.specs.declared.test.Test.{Test}
use Rattle.vhdl_names_trees.specs.declared.test.TestLink.{TestLink}
use Rattle.vhdl_names_trees.specs.declared.test.TestStart.{TestStart}
use Rattle.vhdl_names_trees.specs.views.Tests.{test_view, test_chained}
use Rattle.vhdl_names_trees.proofs.rows.Tests.{view_chain}
use Rattle.vhdl_names_registers.specs.Looking.{named_view, seen, seen_view, joined_by}
use Rattle.vhdl_names_registers.proofs.Parting.{begin_view, chained_more}
use Rattle.vhdl_names_registers.proofs.seen.+seen_in.Goals as goal

pub loop-link-init : goal.loop-link-init
loop-link-init t c =
    let p = option_map named_view c.args.place in
    let one = c.deref-in-Chain in
    let two = c.deref-in-Chain-2 in
    let three = c.deref-in-Chain-3 in
    let s = c.in-Chain.start.value in
    c.joined_by-all.ensures
    ∙ (ap (λ a. joined_by two.result.now.link.operator a (seen_view c.seen_in-in-Chain.result)) c.seen_in-first.ensures
    ∙ (ap (joined_by two.result.now.link.operator (seen p (test_view one.result.now.first))) c.seen_in-in-Chain.ensures
    ∙ (ap (λ (x : TestStart). joined_by two.result.now.link.operator (seen p (test_view x.first)) (seen p (test_view three.result.now.link.operand))) one.ensures
    ∙ (ap (λ (x : TestStart). joined_by x.link.operator (seen p (test_view s.first)) (seen p (test_view three.result.now.link.operand))) two.ensures
    ∙ (ap (λ (x : TestStart). joined_by s.link.operator (seen p (test_view s.first)) (seen p (test_view x.link.operand))) three.ensures
    ∙ sym (ap (λ (x : Test). seen p (begin_view x)) c.in-Chain.is))))))

pub loop-link-preserved : goal.loop-link-preserved
loop-link-preserved t c =
    let p = option_map named_view c.args.place in
    let l = c.loop-link in
    let x = c.link-item.result in
    c.joined_by-all-in-loop-link.ensures
    ∙ ((λ i. joined_by x.operator (l.invariant i) (c.seen_in-in-loop-link.ensures i))
    ∙ sym (ap (seen p) (chained_more (begin_view c.args.test.now) c.deref-link-items.result.now l.link-index x c.loop-link-test.true c.link-item.is)))

pub returns-after-loop-link : goal.returns-after-loop-link
returns-after-loop-link t c =
    let p = option_map named_view c.args.place in
    let l = c.loop-link in
    let i = c.in-Chain in
    let x = c.args.test.now in
    l.invariant
    ∙ (ap (λ (ls : List TestLink). seen p (test_chained (begin_view x) ls)) (take_all l.link-index c.deref-link-items.result.now c.loop-link-test.false ∙ c.deref-link-items.ensures.value)
    ∙ (ap (λ (y : Test). seen p (test_chained (begin_view y) i.links.items)) i.is
    ∙ sym (ap (seen p) (ap test_view i.is ∙ view_chain i.start i.links))))
