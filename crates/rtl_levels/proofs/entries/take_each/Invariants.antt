use Rattle.std.proofs.Common.{length}
use Rattle.std.specs.List.{range_with_len}
use Rattle.rtl_levels.proofs.Spanned.{IsTaking}
use Rattle.rtl_levels.proofs.entries.take_each.Given as goal

abbrev pub invariant-loop-span : goal.invariant-loop-span
invariant-loop-span l =
    IsTaking l.readers (range_with_len l.first (length l.outcome.entries)) l.outcome.entries l.span-items l.span-index l.initial.state l.state
