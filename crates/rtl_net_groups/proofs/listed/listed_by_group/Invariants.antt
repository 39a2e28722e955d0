use Rattle.std.proofs.Common.{◌≡◌, [], length, replicate, take}
use Rattle.rtl_net_groups.specs.Lists.{rows}
use Rattle.rtl_net_groups.specs.steps.Listed.{AreListedByFirst}
use Rattle.rtl_net_groups.proofs.listed.listed_by_group.Given as goal

abbrev pub invariant-loop-group : goal.invariant-loop-group
invariant-loop-group l = rows l.by_group.items ≡ replicate l._group []

abbrev pub invariant-loop-process : goal.invariant-loop-process
invariant-loop-process l = record {
  as_many : length l.by_group.items ≡ length l.runs.first.items;
  listed : AreListedByFirst (take l.process l.nets_of) l.runs.first.items (rows l.by_group.items);
}
