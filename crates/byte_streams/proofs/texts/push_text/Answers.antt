use Rattle.std.proofs.Common.{arith, length-drop}
use Rattle.std.proofs.lemmas.List.{length-take}
use Rattle.byte_streams.proofs.Writing.{Appends-more, fails_at-some}
use Rattle.byte_streams.proofs.texts.push_text.Goals as goal

pub loop-done-preserved : goal.loop-done-preserved
loop-done-preserved g c =
    let within = simp (length-take, length-drop) at c.put-count.ensures.within in (
      omega (arith, within),
      Appends-more _ _ _ _ _ _ c.loop-done.invariant.1 c.put-count.ensures.bytes,
      rw (c.put-count.ensures.failure, c.loop-done.invariant.2) (fails_at-some _ _ c.if-count-eq0.false),
    )
