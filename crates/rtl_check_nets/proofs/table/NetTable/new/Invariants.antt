use Rattle.std.proofs.Common.{◌≡◌, ℕ, ◌<◌, [], length}
use Rattle.rtl_check_levels.specs.Feeding.{IsIn, feeders_of}
use Rattle.rtl_check_nets.proofs.table.NetTable.new.Given as goal

abbrev pub invariant-loop-net : goal.invariant-loop-net
invariant-loop-net l = record {
  each : length l.rows.items ≡ l._net;
  there : (row : ℕ) → row < length l.rows.items → IsIn l.rows.items row;
  fed : (row : ℕ) → feeders_of l.rows.items row ≡ [];
}
