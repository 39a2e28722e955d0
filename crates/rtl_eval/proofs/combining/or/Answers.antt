use Rattle.std.proofs.Common.{◌∙◌, refl}
use Rattle.std.proofs.lemmas.Simd.{zip2_of_maps, splat_is_map}
use Rattle.vhdl_values.specs.declared.kinds.Logic.TheVariants.{Or}
use Rattle.vhdl_values.specs.Scalar.{code_of}
use Rattle.vhdl_values.specs.Logic.{strip}
use Rattle.rtl_eval.proofs.Lanes.{chosen, tops, computed_pairs, paired, pairs, operated_pairs}
use Rattle.rtl_eval.proofs.combining.or.Goals as goal

pub returns : goal.returns
returns g c = λ ls rs a b.
    let ps = paired ls rs in
    let P = pairs g.row.LANES ls rs c.args.left c.args.right c.requires.left c.requires.right a b in
    let three = splat_is_map ps g.row.LANES 3 P.long in
    let right_one = tops _ ps (zip2_of_maps _ _ _ ps P.right_are three) in
    let left_one = tops _ ps (zip2_of_maps _ _ _ ps P.left_are three) in
    let least = chosen _ _ _ ps (tops _ ps (zip2_of_maps _ _ _ ps P.left_are P.right_are)) P.left_are P.right_are in
    let others = chosen _ _ _ ps right_one three least in
    let lanes = chosen _ _ _ ps left_one three others in
    computed_pairs _ _ ps lanes refl ∙ operated_pairs (λ v. code_of (strip v)) Or ls rs
