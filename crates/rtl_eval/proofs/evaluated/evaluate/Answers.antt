use Rattle.rtl_net.specs.Bodies.{value_view}
use Rattle.rtl_eval.specs.Seeing.{seen_of, IsValue, IsPosition}
use Rattle.rtl_eval.proofs.Chains.{within-map}
use Rattle.rtl_eval.proofs.Values.{is_position}
use Rattle.rtl_eval.proofs.evaluated.evaluate.Goals as goal

pub position-requires : goal.position-requires
position-requires c =
    let v = c.args.value.now in
    within-map (seen_of c.args.seen) (λ scope. IsValue scope (value_view v)) (λ scope. IsPosition scope (value_view v))
    (λ scope f. is_position scope v c.in_default.not-Elements f) c.requires
