use Rattle.std.proofs.Common.{◌≡◌, ◌+◌, ◌≤◌, ◌++◌, length, take, drop, ap, sym, ◌∙◌, arith, take-add}
use Rattle.std.proofs.lemmas.Simd.{take_more_put_chunk, length-put_chunk}
use Rattle.rtl_eval.specs.Combined.{combined}
use Rattle.rtl_eval.proofs.Lanes.{many_combined, part_combined, many_in_part}
use Rattle.rtl_eval.proofs.combining.combine_digits.Goals as goal

pub loop-at-preserved : goal.loop-at-preserved
loop-at-preserved c =
    let left = c.args.left.now in
    let at = c.loop-at.at in
    let I = c.loop-at.invariant in
    let more : at + 16 ≤ length left = omega (arith, c.loop-at-test.true, I.within) in
    let whole = combined c.args.logic left c.args.right.now in
    let lanes = c.of_digits.result in
    let are : lanes ≡ take 16 (drop at whole) = c.of_digits.ensures ∙ part_combined c.args.logic at 16 left c.args.right.now in
    let long : length lanes ≡ 16 = ap length are ∙ many_in_part at 16 whole (omega (arith, more, many_combined c.args.logic left c.args.right.now c.requires.as_many)) in
    record {
      within = omega (arith, more);
      room = length-put_chunk at c.loop-at.out lanes ∙ I.room;
      before = take_more_put_chunk at c.loop-at.out lanes (at + 16) (omega (arith, long)) (omega (arith, more, I.room))
          ∙ ap (λ xs. xs ++ lanes) I.before ∙ ap (λ xs. take at whole ++ xs) are ∙ sym (take-add at 16 whole);
    }
