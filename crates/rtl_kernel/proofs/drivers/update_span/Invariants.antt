use Rattle.std.proofs.Common.{ℕ, ◌+◌, ◌-◌, ◌<◌, ◌≤◌}
use Rattle.rtl_kernel.specs.drivers.Transactions.{targets_of}
use Rattle.rtl_kernel.specs.drivers.Updates.{TakesEntries, IsTaken}
use Rattle.rtl_kernel.proofs.drivers.update_span.Given as goal

abbrev pub invariant-loop-first : goal.invariant-loop-first
invariant-loop-first l = record {
  from : l.fn.span.first ≤ l.first;
  to : l.first ≤ l.fn.span.first + l.fn.span.len;
  takes : TakesEntries (targets_of l.initial.nets.net.processes l.own.process) l.outcome.entries l.initial.values l.initial.nets l.values l.nets;
  taken : (q : ℕ) → l.fn.span.first ≤ q → q < l.first → IsTaken l.outcome.entries l.values q;
}

abbrev pub decreases-loop-first : goal.decreases-loop-first
decreases-loop-first l = l.fn.span.first + l.fn.span.len - l.first
