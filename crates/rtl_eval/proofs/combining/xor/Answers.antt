use Rattle.std.proofs.Common.{◌∙◌, refl}
use Rattle.std.proofs.lemmas.Simd.{zip2_of_maps, splat_is_map}
use Rattle.vhdl_values.specs.declared.kinds.Logic.TheVariants.{Xor}
use Rattle.vhdl_values.specs.Scalar.{code_of}
use Rattle.vhdl_values.specs.Logic.{strip}
use Rattle.rtl_eval.proofs.Lanes.{chosen, tops, computed_pairs, paired, pairs, operated_pairs}
use Rattle.rtl_eval.proofs.combining.xor.Goals as goal

pub returns : goal.returns
returns g c = λ ls rs a b.
    let ps = paired ls rs in
    let P = pairs g.row.LANES ls rs c.args.left c.args.right c.requires.left c.requires.right a b in
    let two = splat_is_map ps g.row.LANES 2 P.long in
    let both = zip2_of_maps _ _ _ ps (zip2_of_maps _ _ _ ps P.left_are P.right_are) two in
    let are_digits = tops _ ps (zip2_of_maps _ _ _ ps both two) in
    let digits = zip2_of_maps _ _ _ ps (zip2_of_maps _ _ _ ps P.left_are P.right_are) two in
    let least = chosen _ _ _ ps (tops _ ps (zip2_of_maps _ _ _ ps P.left_are P.right_are)) P.left_are P.right_are in
    let lanes = chosen _ _ _ ps are_digits digits least in
    computed_pairs _ _ ps lanes refl ∙ operated_pairs (λ v. code_of (strip v)) Xor ls rs
