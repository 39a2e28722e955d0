use Rattle.std.proofs.Common.{◌-◌, ◌≤◌, length}
use Rattle.rtl_stim.specs.Quiet.{IsBetween}
use Rattle.rtl_stim.proofs.races.is_clock.Given as goal

abbrev pub invariant-loop-low : goal.invariant-loop-low
invariant-loop-low l = record { between : IsBetween l.clocks l.net l.low l.high; end : l.high ≤ length l.clocks }

abbrev pub decreases-loop-low : goal.decreases-loop-low
decreases-loop-low l = l.high - l.low
