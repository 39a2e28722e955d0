use Rattle.std.proofs.Common.{◌≡◌, ◌++◌}
use Rattle.std.specs.List.{range_with_len}
use Rattle.rtl_kept_bodies.proofs.drivers.add_nets.Given as goal

abbrev pub invariant-loop-k : goal.invariant-loop-k
invariant-loop-k l = l.reads.items ≡ l.initial.reads.items ++ range_with_len l.first l.k
