use Rattle.std.proofs.Common.{◌<◌, length, map, slice_index, ap, sym, ◌∙◌, subst, All}
use Rattle.std.specs.List.{range_with_len}
use Rattle.std.proofs.lemmas.List.{length-map}
use Rattle.std.proofs.lemmas.Simd.{map-map}
use Rattle.vhdl_values.specs.Scalar.{value_of_code}
use Rattle.rtl_model.specs.bodies.Values.{element_at}
use Rattle.rtl_model.specs.bodies.Fits.{IsWidth}
use Rattle.rtl_net.specs.Indices.{numbers}
use Rattle.rtl_eval.proofs.Reading.{all-nine, run-within, run-read}
use Rattle.rtl_eval.proofs.expressions.gathered.Goals as goal

pub slice_bounds-of_codes-end : goal.slice_bounds-of_codes-end
slice_bounds-of_codes-end c =
    let e = ap numbers c.in-Run.is in
    run-within c.args.values.now c.in-Run.first c.in-Run.len (subst (λ ns. IsWidth (length ns)) e c.requires.width)
    (subst (λ ns. All (λ place. place < length c.args.values.now) ns) e c.requires.there)

pub of_codes-requires-clause-room : goal.of_codes-requires-clause-room
of_codes-requires-clause-room c =
    let e = ap numbers c.in-Run.is in
    let width = subst (λ ns. IsWidth (length ns)) e c.requires.width in
    let l = run-within c.args.values.now c.in-Run.first c.in-Run.len width (subst (λ ns. All (λ place. place < length c.args.values.now) ns) e c.requires.there) in
    rw (run-read c.args.values.now c.in-Run.first c.in-Run.len l) (rw (length-map (range_with_len c.in-Run.first c.in-Run.len) (slice_index c.args.values.now)) width.1)

pub of_codes-requires-clause-codes : goal.of_codes-requires-clause-codes
of_codes-requires-clause-codes c =
    let e = ap numbers c.in-Run.is in
    let width = subst (λ ns. IsWidth (length ns)) e c.requires.width in
    let l = run-within c.args.values.now c.in-Run.first c.in-Run.len width (subst (λ ns. All (λ place. place < length c.args.values.now) ns) e c.requires.there) in
    subst (λ xs. All (λ code. code < 9) xs) (sym (run-read c.args.values.now c.in-Run.first c.in-Run.len l))
    (all-nine c.args.values.now (range_with_len c.in-Run.first c.in-Run.len) (subst (λ ns. All (λ place. slice_index c.args.values.now place < 9) ns) e c.requires.nine))

pub returns-in-Run : goal.returns-in-Run
returns-in-Run c =
    let e = ap numbers c.in-Run.is in
    let width = subst (λ ns. IsWidth (length ns)) e c.requires.width in
    let l = run-within c.args.values.now c.in-Run.first c.in-Run.len width (subst (λ ns. All (λ place. place < length c.args.values.now) ns) e c.requires.there) in
    c.of_codes.ensures.list ∙ ap (map value_of_code) (run-read c.args.values.now c.in-Run.first c.in-Run.len l)
    ∙ map-map value_of_code (slice_index c.args.values.now) (range_with_len c.in-Run.first c.in-Run.len) ∙ ap (map (element_at c.args.values.now)) (sym e)
