use Rattle.std.proofs.Common.{◌+◌, ◌-◌, ◌≤◌}
use Rattle.rtl_kernel.specs.drivers.Transactions.{nets_of}
use Rattle.rtl_levels.specs.States.{StateTakesPart}
use Rattle.rtl_levels.proofs.entries.take_span.Given as goal

abbrev pub invariant-loop-first : goal.invariant-loop-first
invariant-loop-first l = record {
  from : l.fn.span.first ≤ l.first;
  to : l.first ≤ l.fn.span.first + l.fn.span.len;
  some : StateTakesPart l.schedule.readers (nets_of l.drives) l.outcome.entries l.fn.span.first l.first l.initial.state l.state;
}

abbrev pub decreases-loop-first : goal.decreases-loop-first
decreases-loop-first l = l.fn.span.first + l.fn.span.len - l.first
