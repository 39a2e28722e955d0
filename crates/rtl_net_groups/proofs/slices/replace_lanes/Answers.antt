use Rattle.std.proofs.Common.{◌≡◌, ◌+◌, ◌≤◌, ◌++◌, inr, length, ap, sym, ◌∙◌, arith, take-add, ⊎_elim}
use Rattle.std.proofs.lemmas.Bool.{or_cases}
use Rattle.std.proofs.lemmas.Simd.{get_or-put_chunk_above, length-chunk, take_more_put_chunk, length-put_chunk}
use lib.Lanes.{chunk, put_chunk}
use Rattle.rtl_net_groups.proofs.Lanes.{others_from, same_from}
use Rattle.rtl_net_groups.proofs.Replaced.{neither, other_lanes, put_same}
use Rattle.rtl_net_groups.proofs.slices.replace_lanes.Goals as goal

pub loop-at-preserved : goal.loop-at-preserved
loop-at-preserved g c =
    let n = g.row.LANES in
    let values = c.args.values.now in
    let over = c.loop-at.over in
    let at = c.loop-at.at in
    let I = c.loop-at.invariant in
    let more : at + n ≤ length values = omega (arith, c.loop-at-test.true, I.within) in
    let long : length (chunk at n values) ≡ n = length-chunk at n values more in
    record {
      grows = omega (arith, I.grows);
      within = more;
      as_many = length-put_chunk at over (chunk at n values) ∙ I.as_many;
      before = take_more_put_chunk at over (chunk at n values) (at + n) (omega (arith, long)) (omega (arith, more, I.as_many))
          ∙ ap (λ xs. xs ++ chunk at n values) I.before ∙ sym (take-add at n values);
      alike = λ none.
          let (was, same) = neither c.loop-at.differ c.are_different.result none in
          let (first, stays) = I.alike was in
          let is : chunk at n over ≡ chunk at n values = same_from _ _ (sym same ∙ c.are_different.ensures) in
          (first, stays ∙ put_same at n over (omega (arith, more, I.as_many)) ∙ ap (put_chunk at over) is);
      behind = λ k from. get_or-put_chunk_above at over (chunk at n values) k 0 (omega (arith, from, long)) ∙ I.behind k (omega (arith, from));
      other = λ told. ⊎_elim I.other
          (λ here. inr (other_lanes n at c.args.from values over c.args.over.now I.grows more (omega (arith, more, I.as_many)) I.behind (others_from _ _ (sym here ∙ c.are_different.ensures))))
          (or_cases c.loop-at.differ c.are_different.result told);
    }
