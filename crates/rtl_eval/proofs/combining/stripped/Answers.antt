use Rattle.std.proofs.Common.{◌∙◌, ℕ, w8, refl, sym}
use Rattle.std.proofs.lemmas.Simd.{zip2_of_maps, zip2_splat, splat_is_map, length-chunk, chunk-fits, map-map}
use lib.Lanes.{chunk}
use Rattle.vhdl_values.specs.Scalar.{code_of, value_of_code}
use Rattle.vhdl_values.specs.Logic.{strip}
use Rattle.rtl_eval.proofs.Lanes.{chosen, tops, computed_bytes, many_stripped}
use Rattle.rtl_eval.proofs.combining.stripped.Goals as goal

pub returns-clause-values : goal.returns-clause-values
returns-clause-values g c =
    let n = g.row.LANES in
    let codes = c.args.codes.now in
    let v = chunk c.args.at n codes in
    let long = length-chunk c.args.at n codes c.requires in
    let are_digits = tops _ v (zip2_of_maps _ _ _ v (zip2_splat {Y = ℕ} _ v n 250 long) (splat_is_map v n 2 long)) in
    let are_unset = tops _ v (zip2_splat {Y = ℕ} _ v n 0 long) in
    let others = chosen _ _ _ v are_unset (splat_is_map v n 0 long) (splat_is_map v n 1 long) in
    let lanes = chosen _ _ _ v are_digits (zip2_splat {Y = ℕ} _ v n 251 long) others in
    computed_bytes _ (λ k. code_of (strip (value_of_code k))) v lanes (chunk-fits w8 c.args.at n codes c.type_inv.codes) refl
    ∙ sym (map-map (λ u. code_of (strip u)) value_of_code v)

pub returns-clause-many : goal.returns-clause-many
returns-clause-many g c = many_stripped g.row.LANES c.args.at c.args.codes.now c.requires (returns-clause-values g c)
