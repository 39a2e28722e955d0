use Rattle.std.proofs.Common.{◌≡◌, drop}
use Rattle.rtl_model.specs.bodies.Body as bodies
use Rattle.rtl_model.specs.bodies.Tests.{is_met}
use Rattle.rtl_model.specs.bodies.Fits.{FitsTest}
use Rattle.rtl_net.specs.Bodies.{test_links_of}
use Rattle.rtl_eval.specs.Seeing.{seen_of, Within}
use Rattle.rtl_eval.proofs.Weights.{test_weight, test_links_weight}
use Rattle.rtl_eval.proofs.tests.+condition.Given as goal

abbrev pub invariant-chain-loop-link : goal.invariant-chain-loop-link
invariant-chain-loop-link l =
    (is_met (seen_of l.seen) (test_links_of (bodies.decided l.left) (drop l.link-index l.links)) ≡ is_met (seen_of l.seen) (test_links_of (bodies.decided l.first) l.links))
    × Within (seen_of l.seen) (λ scope. FitsTest scope (test_links_of (bodies.decided l.left) (drop l.link-index l.links)))

abbrev pub decreases-is_met : goal.decreases-is_met
decreases-is_met l = test_weight l.test.now

abbrev pub decreases-chain : goal.decreases-chain
decreases-chain l = test_links_weight l.links.now
