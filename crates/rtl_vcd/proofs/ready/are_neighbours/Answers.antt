use Rattle.std.proofs.Common.{◌≡◌, ◌+◌, ◌++◌, ◌∷◌, [], arith, sym, ap, ◌∙◌, length, slice_index}
use Rattle.std.specs.List.{range_with_len}
use Rattle.std.proofs.lemmas.List.{take_more, take_all}
use Rattle.rtl_vcd.proofs.Ends.{range_more}
use Rattle.rtl_vcd.proofs.ready.are_neighbours.Goals as goal

pub loop-place-preserved : goal.loop-place-preserved
loop-place-preserved c =
    let nets = c.args.nets.now in
    let place = c.loop-place.place in
    let first = slice_index nets 0 in
    let here : slice_index nets place ≡ first + place = c.is_behind.ensures c.if-not-is_behind.false in
    take_more nets place 0 c.loop-place-test.true
    ∙ ap (λ xs. xs ++ slice_index nets place ∷ []) c.loop-place.invariant
    ∙ ap (λ n. range_with_len first place ++ n ∷ []) here
    ∙ sym (range_more first place)

pub returns : goal.returns
returns c =
    let place = c.loop-place.place in
    let nets = c.args.nets.now in
    let all : place ≡ length nets = omega (arith, c.loop-place-test.false, c.loop-place.auto.place-end) in
    λ _. sym (take_all place nets c.loop-place-test.false) ∙ c.loop-place.invariant ∙ ap (range_with_len (slice_index nets 0)) all
