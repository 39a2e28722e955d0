use Rattle.rtl_model.specs.bodies.Fits.{FitBoth}
use Rattle.rtl_net.specs.Bodies.{value_view}
use Rattle.rtl_eval.specs.Seeing.{seen_of, IsValue}
use Rattle.rtl_eval.proofs.Chains.{within-map}
use Rattle.rtl_eval.proofs.Values.{each_is_value}
use Rattle.rtl_eval.proofs.tests.are_equal.Goals as goal

pub evaluate-requires : goal.evaluate-requires
evaluate-requires c =
    let left = c.args.left.now in
    let right = c.args.right.now in
    within-map (seen_of c.args.seen) (λ scope. FitBoth scope (value_view left) (value_view right)) (λ scope. IsValue scope (value_view left))
    (λ scope f. (each_is_value scope left right f).0) c.requires

pub evaluate-requires-2 : goal.evaluate-requires-2
evaluate-requires-2 c =
    let left = c.args.left.now in
    let right = c.args.right.now in
    within-map (seen_of c.args.seen) (λ scope. FitBoth scope (value_view left) (value_view right)) (λ scope. IsValue scope (value_view right))
    (λ scope f. (each_is_value scope left right f).1) c.requires
