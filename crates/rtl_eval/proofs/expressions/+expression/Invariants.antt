use Rattle.std.proofs.Common.{◌≡◌, drop}
use Rattle.rtl_model.specs.bodies.Body as bodies
use Rattle.rtl_model.specs.bodies.Values.{elements_of}
use Rattle.rtl_model.specs.bodies.Fits.{FitsExpr}
use Rattle.rtl_net.specs.Bodies.{links_of}
use Rattle.rtl_eval.specs.Seeing.{seen_of, Within}
use Rattle.rtl_eval.proofs.Weights.{weight, links_weight}
use Rattle.rtl_eval.proofs.expressions.+expression.Given as goal

abbrev pub invariant-chain-loop-link : goal.invariant-chain-loop-link
invariant-chain-loop-link l =
    (elements_of (seen_of l.seen) (links_of (bodies.constant l.left) (drop l.link-index l.links)) ≡ elements_of (seen_of l.seen) (links_of (bodies.constant l.first) l.links))
    × Within (seen_of l.seen) (λ scope. FitsExpr scope (links_of (bodies.constant l.left) (drop l.link-index l.links)))

abbrev pub decreases-value : goal.decreases-value
decreases-value l = weight l.expr.now

abbrev pub decreases-chain : goal.decreases-chain
decreases-chain l = links_weight l.links.now
