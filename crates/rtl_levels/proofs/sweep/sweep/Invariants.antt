use Rattle.std.proofs.Common.{◌-◌, ◌≤◌, length}
use Rattle.rtl_net.specs.Core.{core}
use Rattle.rtl_net_groups.specs.Touching.{Touches}
use Rattle.rtl_levels.specs.Kept.{IsStateOf, MayRun}
use Rattle.rtl_levels.proofs.Sweeping.{IsSweeping}
use Rattle.rtl_levels.proofs.sweep.sweep.Given as goal

abbrev pub invariant-loop-rank : goal.invariant-loop-rank
invariant-loop-rank g l = record {
  may : MayRun g.E.Exec.process g.E.Exec.types g.E.Exec.most l.net l.bodies l.runs.items;
  state : IsStateOf (core l.net) l.schedule l.state;
  sweeping : IsSweeping (core l.net) l.schedule l.rank l.initial.state.values.items l.state;
  within : l.rank ≤ length l.state.dirty.items;
  touched : Touches l.initial.state.touched l.state.touched l.initial.state.values.items l.state.values.items;
}

abbrev pub decreases-loop-rank : goal.decreases-loop-rank
decreases-loop-rank g l = length l.state.dirty.items - l.rank
