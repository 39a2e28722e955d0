use Rattle.std.proofs.Common.{◌&&◌, ◌||◌, ℕ, Bool, List, refl, ap, sym, ◌∙◌}
use Rattle.std.proofs.lemmas.List.{at_drop_all}
use Rattle.rtl_net.specs.Bodies.{operator_view}
use Rattle.rtl_body_facts.specs.Reading.{is_in}
use Rattle.rtl_remarks.specs.Undefined.{passes}
use Rattle.rtl_remarks.specs.Tables.{links_some, links_whole}
use Rattle.rtl_remarks.proofs.Meanwhile.{both_ok, chain_makes, some_next, whole_next}
use Rattle.rtl_remarks.proofs.undefined.+undefined.Goals as goal

pub links_of-loop-link-init : goal.links_of-loop-link-init
links_of-loop-link-init t c = record { nets = λ n. refl; whole = refl }

pub links_of-loop-link-preserved : goal.links_of-loop-link-preserved
links_of-loop-link-preserved t c =
    let l = c.loop-link in
    let rest = c.args.rest.now in
    let link = c.link-item.result in
    record {
      nets = λ n.
          some_next n (is_in n l.nets.items) (is_in n c.in_ok-right.right.nets.items) (is_in n c.in_ok-nets.nets.items) _ rest l.link-index link c.loop-link-test.true c.link-item.is
          (l.invariant.nets n) (c.in_ok-nets.ensures n ∙ ap (λ (b : Bool). b && (is_in n l.nets.items || is_in n c.deref.result.now)) c.passes.ensures
          ∙ ap (λ (xs : List ℕ). passes (operator_view link.operator) && (is_in n l.nets.items || is_in n xs)) c.deref.ensures.value)
          (c.in_ok-right.ensures.nets n);
      whole = whole_next l.whole c.in_ok-right.right.whole c.whole_of-whole.result _ rest l.link-index link c.loop-link-test.true c.link-item.is l.invariant.whole c.whole_of-whole.ensures c.in_ok-right.ensures.whole;
    }

pub makers_of-returns-in_ok-left-in-Chain : goal.makers_of-returns-in_ok-left-in-Chain
makers_of-returns-in_ok-left-in-Chain t c =
    let i = c.in-Chain in
    both_ok _ _ _ c.links_of.result
    (λ v some whole. chain_makes c.args.expr.now i.first i.rest _ _ c.in_ok-left-in-Chain.left v i.is c.deref-in-Chain.ensures c.deref-in-Chain-2.ensures.value c.in_ok-left-in-Chain.ensures some whole)
    c.links_of.ensures.nets c.links_of.ensures.whole

pub links_of-returns-clause-nets : goal.links_of-returns-clause-nets
links_of-returns-clause-nets t c =
    let l = c.loop-link in
    λ n. sym (at_drop_all (links_some n (is_in n l.nets.items)) c.args.rest.now l.link-index c.loop-link-test.false) ∙ l.invariant.nets n

pub links_of-returns-clause-whole : goal.links_of-returns-clause-whole
links_of-returns-clause-whole t c =
    let l = c.loop-link in
    sym (at_drop_all (links_whole l.whole) c.args.rest.now l.link-index c.loop-link-test.false) ∙ l.invariant.whole
