use Rattle.std.proofs.Common.{ℕ, ◌⊎◌, drop, Contains}
use Rattle.rtl_drives.specs.Spans.{places_of}
use Rattle.rtl_kernel.specs.drivers.Transactions.{targets_of}
use Rattle.rtl_kernel.specs.drivers.Updates.{TakesEntries, IsTaken}
use Rattle.rtl_kernel.proofs.drivers.update_process.Given as goal

abbrev pub invariant-loop-span : goal.invariant-loop-span
invariant-loop-span l = record {
  takes : TakesEntries (targets_of l.initial.nets.net.processes l.process) l.outcome.entries l.initial.values l.initial.nets l.values l.nets;
  left : (q : ℕ) → IsTaken l.outcome.entries l.values q ⊎ Contains (places_of (drop l.span-index l.span-items)) q;
}
