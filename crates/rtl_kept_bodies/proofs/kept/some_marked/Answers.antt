use Rattle.std.proofs.Common.{true, false, ◌+◌, ◌∙◌, arith}
use Rattle.std.proofs.lemmas.List.{get_or_default}
use Rattle.std.specs.Prelude.{slice_index_or}
use Rattle.rtl_kept_bodies.proofs.Listing.{range_found, range_not_more}
use Rattle.rtl_kept_bodies.proofs.kept.some_marked.Goals as goal

pub returns-then-marks-first : goal.returns-then-marks-first
returns-then-marks-first c =
    range_found (λ e. slice_index_or c.args.marks.now e true) c.args.first c.args.len c.loop-k.k c.loop-k-test.true
    (get_or_default c.args.marks.now (c.args.first + c.loop-k.k) true false (omega (arith, c.requires, c.loop-k-test.true)) ∙ c.if-marks-first.true)

pub loop-k-preserved : goal.loop-k-preserved
loop-k-preserved c = range_not_more (λ e. slice_index_or c.args.marks.now e true) c.args.first c.loop-k.k c.loop-k.invariant
    (get_or_default c.args.marks.now (c.args.first + c.loop-k.k) true false (omega (arith, c.requires, c.loop-k-test.true)) ∙ c.if-marks-first.false)
