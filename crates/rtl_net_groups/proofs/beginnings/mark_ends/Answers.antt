use Rattle.std.proofs.Common.{◌≡◌, ◌∙◌, sym, ap, subst, length, below_more, inl, inr, arith}
use Rattle.rtl_net_groups.specs.steps.Marks.{IsMarked, IsTold, after}
use Rattle.rtl_net_groups.proofs.Marking.{after_more, keeps_then, told_kept, listed_alike}
use Rattle.rtl_net_groups.proofs.beginnings.mark_ends.Goals as goal
use Rattle.rtl_net_groups.proofs.beginnings.mark_ends.Goals.{then-net-expected, else-net-expected}

pub loop-net-preserved : goal.loop-net-preserved
loop-net-preserved c =
    let I = c.loop-net.invariant in
    let nets = c.args.nets.now in
    let i = c.loop-net.net-index in
    let old = c.loop-net.begins.items in
    elim c.if-net-expected.branch [
      | then-net-expected w ↦
          let mid = w.mark.new.begins.items in
          let new = w.mark-then-net-expected.new.begins.items in
          let K = keeps_then old mid new w.mark.ensures.kept w.mark-then-net-expected.ensures.kept in
          let end : IsMarked new (after nets i) = subst (IsMarked new) I.follows (w.mark-then-net-expected.ensures.kept.kept c.loop-net.expected w.mark.ensures.marked) in
          rw (w.begins-is) (record {
            kept = keeps_then _ _ _ I.kept K;
            follows = sym (after_more nets i);
            told = below_more (IsTold new nets) i (λ k l. told_kept old new nets k K (I.told k l)) (inr (end, w.mark-then-net-expected.ensures.marked));
          })
      | else-net-expected w ↦
          rw (w.begins-is) (record {
            kept = I.kept;
            follows = sym (after_more nets i);
            told = below_more (IsTold old nets) i I.told (inl (w.if-net-expected.false ∙ I.follows));
          })
    ]

pub returns-clause-alike : goal.returns-clause-alike
returns-clause-alike c =
    let I = c.loop-net.invariant in
    let nets = c.args.nets.now in
    let old = c.loop-net.begins.items in
    let new = c.mark-2.new.begins.items in
    let all : c.loop-net.net-index ≡ length nets = omega (arith, c.loop-net-test.false, c.loop-net.auto.net-index-end) in
    let end : IsMarked new (after nets (length nets)) = subst (IsMarked new) (I.follows ∙ ap (after nets) all) c.mark-2.ensures.marked in
    listed_alike new nets (λ k l. told_kept old new nets k c.mark-2.ensures.kept (I.told k (omega (arith, l, all)))) end
