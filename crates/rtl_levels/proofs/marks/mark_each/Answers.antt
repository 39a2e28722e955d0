use Rattle.std.proofs.Common.{◌<◌, ◌∙◌, refl, get_or, length}
use Rattle.std.proofs.lemmas.List.{length-set}
use Rattle.rtl_kernel.proofs.Waking.{adds_more, adds_set}
use Rattle.rtl_levels.proofs.marks.mark_each.Goals as goal

pub loop-number-preserved : goal.loop-number-preserved
loop-number-preserved c =
    let xs = c.args.numbers.now in
    let i = c.loop-number.number-index in
    let marks = c.loop-number.marks.items in
    let I = c.loop-number.invariant in
    let within : get_or xs i 0 < length marks = rw (← I.as_many) at (c.requires.there i 0 c.loop-number-test.true) in
    record {
      as_many = length-set marks (get_or xs i 0) _ ∙ I.as_many;
      marks = adds_more xs i (get_or xs i 0) c.args.marks.now.items marks _ c.loop-number-test.true refl I.marks (adds_set marks (get_or xs i 0) within);
    }
