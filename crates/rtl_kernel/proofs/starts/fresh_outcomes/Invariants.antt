use Rattle.std.proofs.Common.{◌≡◌, length, take}
use Rattle.rtl_kernel.specs.drivers.Starts.{AreFresh}
use Rattle.rtl_kernel.proofs.starts.fresh_outcomes.Given as goal

abbrev pub invariant-loop-number : goal.invariant-loop-number
invariant-loop-number g l = record {
  many : length l.outcomes.items ≡ l.number;
  fresh : AreFresh g.E.Exec.most (take l.number l.processes) l.bodies l.outcomes.items;
}
