use Rattle.std.proofs.Common.{◌≡◌, ℕ, ◌<◌, length}
use Rattle.std.specs.Prelude.{slice_index, unwrap_or}
use Rattle.rtl_check_levels.specs.Levels.{level_of}
use Rattle.rtl_check_nets.proofs.levels.nets_of.Given as goal

abbrev pub invariant-loop-net : goal.invariant-loop-net
invariant-loop-net l = record {
  many : length l.are.items ≡ l.net;
  each : (n : ℕ) → n < l.net → slice_index l.are.items n ≡ unwrap_or (level_of l.levels n) 0;
}
