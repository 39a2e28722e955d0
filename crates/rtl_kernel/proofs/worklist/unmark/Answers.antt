use Rattle.std.proofs.Common.{arith, ap, ◌∙◌, false, replicate}
use Rattle.rtl_kernel.proofs.Marks.{no_mark}
use Rattle.rtl_kernel.proofs.worklist.unmark.Goals as goal

pub returns : goal.returns
returns c =
    no_mark c.loop-place.marks (λ place marked. let (k, from, within, is) = c.loop-place.invariant.later place marked in absurd (omega arith))
    ∙ ap (λ n. replicate n false) c.loop-place.invariant.as_many
