use Rattle.std.proofs.Common.{sym, ◌∙◌, arith}
use Rattle.std.proofs.lemmas.List.{take_all}
use Rattle.rtl_eval.specs.Combined.{combined}
use Rattle.rtl_eval.proofs.Lanes.{many_combined}
use Rattle.rtl_eval.proofs.combining.combine_from.Goals as goal

pub returns : goal.returns
returns c =
    let s = c.args.combination.now in
    let left = s.left.now in
    let last = c.combine_lanes-all in
    let whole = combined s.logic left s.right.now in
    sym (take_all last.result last.new.out (omega (arith, last.ensures.few, last.ensures.room))) ∙ last.ensures.before
    ∙ take_all last.result whole (omega (arith, last.ensures.few, many_combined s.logic left s.right.now s.as_many))
