use Rattle.std.proofs.Common.{◌≡◌, ◌<◌, ◌++◌, [], ◌∷◌, length, map, take, slice_index, ap, sym, ◌∙◌, subst, arith, length-set, All}
use Rattle.std.proofs.Math.Seq.{take-length}
use Rattle.std.proofs.lemmas.List.{take_more, take_more_set, map-append}
use Rattle.std.proofs.lemmas.Simd.{map-map}
use Rattle.vhdl_values.specs.Scalar.{value_of_code}
use Rattle.rtl_eval.proofs.Reading.{all-nine}
use Rattle.rtl_eval.proofs.expressions.scattered.Goals as goal

pub loop-at-preserved : goal.loop-at-preserved
loop-at-preserved c =
    let (counted, before) = c.loop-at.invariant in
    let l : c.loop-at.at < length c.args.places.now = omega (arith, c.loop-at-test.true) in
    let v = c.args.values.now in (
      length-set c.loop-at.codes c.loop-at.at _ ∙ counted,
      take_more_set c.loop-at.codes c.loop-at.at (slice_index v (slice_index c.args.places.now c.loop-at.at)) (omega (arith, l, counted, c.requires.width.1))
          ∙ ap (λ xs. xs ++ slice_index v (slice_index c.args.places.now c.loop-at.at) ∷ []) before
          ∙ sym (ap (map (slice_index v)) (take_more c.args.places.now c.loop-at.at 0 l) ∙ map-append (slice_index v) (take c.loop-at.at c.args.places.now) (slice_index c.args.places.now c.loop-at.at ∷ [])),
    )

pub of_codes-requires-clause-codes : goal.of_codes-requires-clause-codes
of_codes-requires-clause-codes c =
    let (counted, before) = c.loop-at.invariant in
    let ended : c.loop-at.at ≡ length c.args.places.now = omega (arith, c.loop-at-test.false) in
    let e = ap (λ n. take n c.loop-at.codes) (sym ended) ∙ before ∙ ap (λ n. map (slice_index c.args.values.now) (take n c.args.places.now)) ended ∙ ap (map (slice_index c.args.values.now)) (take-length c.args.places.now) in
    subst (λ xs. All (λ code. code < 9) xs) (sym e) (all-nine c.args.values.now c.args.places.now c.requires.nine)

pub returns : goal.returns
returns c =
    let (counted, before) = c.loop-at.invariant in
    let ended : c.loop-at.at ≡ length c.args.places.now = omega (arith, c.loop-at-test.false) in
    let e = ap (λ n. take n c.loop-at.codes) (sym ended) ∙ before ∙ ap (λ n. map (slice_index c.args.values.now) (take n c.args.places.now)) ended ∙ ap (map (slice_index c.args.values.now)) (take-length c.args.places.now) in
    c.of_codes.ensures.list ∙ ap (map value_of_code) e ∙ map-map value_of_code (slice_index c.args.values.now) c.args.places.now
