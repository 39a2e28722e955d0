use Rattle.std.proofs.Common.{List, ℕ, subst, sym, take, arith, Some, slice_set, slice_index_or}
use Rattle.std.proofs.lemmas.List.{take_more}
use Rattle.rtl_calm_nets.specs.Reaching.{AreSettled}
use Rattle.rtl_calm_nets.proofs.Walking.{settles_more}
use Rattle.rtl_calm_nets.proofs.search.settle.Goals as goal

pub loop-place-preserved : goal.loop-place-preserved
loop-place-preserved c =
    let k = c.loop-place.place-index in
    let path = c.args.path.now in
    let marks = c.loop-place.marks in
    let within = c.loop-place.invariant.each_place in
    let there = c.requires k 0 c.loop-place-test.true in
    subst (λ (xs : List ℕ). AreSettled xs c.args.mark c.args.marks.now (slice_set marks (slice_index_or path k 0) (Some c.args.mark)))
    (sym (take_more path k 0 c.loop-place-test.true))
    (settles_more (take k path) (slice_index_or path k 0) c.args.mark c.args.marks.now marks (omega (arith, there, within)) c.loop-place.invariant)
