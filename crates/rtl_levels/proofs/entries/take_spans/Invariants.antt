use Rattle.rtl_kernel.specs.drivers.Transactions.{nets_of}
use Rattle.rtl_levels.proofs.Spanned.{IsTaking}
use Rattle.rtl_levels.proofs.entries.take_spans.Given as goal

abbrev pub invariant-loop-span : goal.invariant-loop-span
invariant-loop-span l = IsTaking l.schedule.readers (nets_of l.drives) l.outcome.entries l.span-items l.span-index l.initial.state l.state
