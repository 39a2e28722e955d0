use Rattle.std.proofs.Common.{◌≡◌, ◌++◌}
use Rattle.std.specs.List.{range_with_len}
use Rattle.vhdl_connect.proofs.nets.push_own.Given as goal

-- the nets so far
abbrev pub invariant-loop-k : goal.invariant-loop-k
invariant-loop-k l = l.nets.items ≡ l.initial.nets.items ++ range_with_len l.first l.k
