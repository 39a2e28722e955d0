use Rattle.std.proofs.Common.{◌≡◌, drop}
use Rattle.rtl_model.specs.bodies.Body as bodies
use Rattle.rtl_model.specs.bodies.Values.{elements_of}
use Rattle.rtl_net.specs.Bodies.{links_of}
use Rattle.rtl_eval.proofs.Weights.{weight, links_weight}
use Rattle.vhdl_expand_rules.specs.Declarations.{nothing_seen}
use Rattle.vhdl_expand_operands.specs.Sized.{IsSized}
use Rattle.vhdl_expand_operands.proofs.known.+known.Given as goal

-- the links that are left, behind the value so far, give the value of the whole
abbrev pub invariant-chain-loop-link : goal.invariant-chain-loop-link
invariant-chain-loop-link l =
    (elements_of nothing_seen (links_of (bodies.constant l.left) (drop l.link-index l.links)) ≡ elements_of nothing_seen (links_of (bodies.constant l.first) l.links))
    × IsSized (links_of (bodies.constant l.left) (drop l.link-index l.links))

abbrev pub decreases-values_of : goal.decreases-values_of
decreases-values_of l = weight l.expr.now

abbrev pub decreases-chain : goal.decreases-chain
decreases-chain l = links_weight l.links.now
