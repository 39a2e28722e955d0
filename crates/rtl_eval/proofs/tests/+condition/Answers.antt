use Rattle.std.proofs.Common.{◌≡◌, arith, ◌∙◌, ◌+◌, List, drop, ap, sym}
use Rattle.rtl_model.specs.bodies.Body as bodies
use Rattle.rtl_model.specs.bodies.Tests as spec
use Rattle.rtl_model.specs.bodies.Fits.{FitsTest}
use Rattle.rtl_net.specs.declared.body.Test.{Test}
use Rattle.rtl_net.specs.declared.body.TestLink.{TestLink}
use Rattle.rtl_net.specs.Bodies.{test_view, test_links_of}
use Rattle.rtl_net.proofs.Rows.{view_combined}
use Rattle.rtl_eval.specs.Seeing.{seen_of}
use Rattle.rtl_eval.proofs.Chains.{within-map, same_met, test_fits_too, test_chain_at, rest_at, test_within_link, test_within_first, test_within_rest}
use Rattle.rtl_eval.proofs.Weights.{test_weight, test_links_weight, tested_weight, combined_weight}
use Rattle.rtl_eval.proofs.Totals.{lighter}
use Rattle.rtl_eval.proofs.tests.+condition.Goals as goal

pub is_met-returns-in-Combined : goal.is_met-returns-in-Combined
is_met-returns-in-Combined t c =
    let seen = seen_of c.args.seen in
    let first = c.in-Combined.first.value in
    let ls = c.in-Combined.rest.items in
    let whole = ap test_view c.in-Combined.is ∙ view_combined c.in-Combined.first c.in-Combined.rest in
    let e : c.is_met-in-Combined.result ≡ spec.is_met seen (test_view first) = c.is_met-in-Combined.ensures ∙ ap (λ (x : Test). spec.is_met seen (test_view x)) c.deref-in-Combined.ensures in
    c.chain.ensures
    ∙ (ap (λ (ys : List TestLink). spec.is_met seen (test_links_of (bodies.decided c.is_met-in-Combined.result) ys)) c.deref-in-Combined-2.ensures.value
    ∙ (same_met seen (bodies.decided c.is_met-in-Combined.result) (test_view first) ls e ∙ ap (spec.is_met seen) (sym whole)))

pub chain-loop-link-preserved : goal.chain-loop-link-preserved
chain-loop-link-preserved t c =
    let x = c.link-item.result in
    let seen = seen_of c.args.seen in
    let left = c.loop-link.left in
    let ls = c.args.links.now in
    let i = c.loop-link.link-index in
    let now = test_chain_at seen left ls i x c.loop-link-test.true c.link-item.is c.loop-link.invariant.1 in
    let both = bodies.combined x.operator (bodies.decided left) (test_view x.operand) in
    let e : c.logical-left.result ≡ spec.is_met seen both = c.logical-left.ensures ∙ ap (spec.truth x.operator left) c.is_met.ensures in (
      same_met seen (bodies.decided c.logical-left.result) both (drop (i + 1) ls) e
          ∙ (ap (λ (ys : List TestLink). spec.is_met seen (test_links_of (bodies.decided left) ys)) (sym (rest_at ls i x c.loop-link-test.true c.link-item.is)) ∙ c.loop-link.invariant.0),
      within-map seen (λ scope. FitsTest scope (test_links_of both (drop (i + 1) ls))) (λ scope. FitsTest scope (test_links_of (bodies.decided c.logical-left.result) (drop (i + 1) ls)))
          (λ scope f. test_fits_too scope both (bodies.decided c.logical-left.result) (drop (i + 1) ls) tt f) now,
    )

pub chain-is_met-requires : goal.chain-is_met-requires
chain-is_met-requires t c =
    let w = test_within_link (seen_of c.args.seen) c.loop-link.left c.args.links.now c.loop-link.link-index c.link-item.result c.loop-link.invariant.1 c.loop-link-test.true c.link-item.is in
    (omega (arith, c.decreases, lighter tested_weight c.args.links.now c.loop-link.link-index c.link-item.result c.loop-link-test.true c.link-item.is), w)

pub is_met-is_met-requires-in-Combined : goal.is_met-is_met-requires-in-Combined
is_met-is_met-requires-in-Combined t c =
    let w = test_within_first (seen_of c.args.seen) c.args.test.now c.in-Combined.first c.in-Combined.rest c.deref-in-Combined.result.now c.requires c.in-Combined.is c.deref-in-Combined.ensures in
    (omega (arith, c.decreases, ap test_weight c.in-Combined.is, combined_weight c.in-Combined.first c.in-Combined.rest, ap test_weight c.deref-in-Combined.ensures), w)

pub is_met-chain-requires : goal.is_met-chain-requires
is_met-chain-requires t c =
    let w = test_within_rest (seen_of c.args.seen) c.args.test.now c.in-Combined.first c.in-Combined.rest c.is_met-in-Combined.result c.deref-in-Combined-2.result.now
    c.requires c.in-Combined.is c.deref-in-Combined-2.ensures.value in
    (omega (arith, c.decreases, ap test_weight c.in-Combined.is, combined_weight c.in-Combined.first c.in-Combined.rest, ap test_links_weight c.deref-in-Combined-2.ensures.value), w)
