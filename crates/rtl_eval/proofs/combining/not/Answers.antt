use Rattle.std.proofs.Common.{◌≡◌, ◌∙◌, ℕ, List, length, refl, sym, ap}
use Rattle.std.proofs.lemmas.List.{length-map}
use Rattle.std.proofs.lemmas.Simd.{zip2_of_maps, splat_is_map, map-map}
use Rattle.vhdl_values.specs.Scalar.{code_of}
use Rattle.vhdl_values.specs.Logic.{strip, not_of}
use Rattle.rtl_eval.proofs.Lanes.{chosen, tops, computed_values}
use Rattle.rtl_eval.proofs.combining.not.Goals as goal

pub returns : goal.returns
returns g c = λ vs a.
    let n = g.row.LANES in
    let long : length vs ≡ n = sym (length-map vs (λ v. code_of (strip v))) ∙ sym (ap (λ (xs : List ℕ). length xs) a) ∙ c.requires in
    let two = splat_is_map vs n 2 long in
    let are_digits = tops _ vs (zip2_of_maps _ _ _ vs (zip2_of_maps _ _ _ vs a two) two) in
    let lanes = chosen _ _ _ vs are_digits (zip2_of_maps _ _ _ vs a (splat_is_map vs n 1 long)) a in
    computed_values _ (λ v. code_of (strip (not_of v))) vs lanes refl ∙ sym (map-map (λ v. code_of (strip v)) not_of vs)
