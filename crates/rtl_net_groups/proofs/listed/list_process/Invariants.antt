use Rattle.std.proofs.Common.{◌≡◌, length, take}
use Rattle.rtl_net_groups.specs.Lists.{rows}
use Rattle.rtl_net_groups.specs.steps.Listed.{IsListedIn}
use Rattle.rtl_net_groups.proofs.listed.list_process.Given as goal

abbrev pub invariant-loop-net : goal.invariant-loop-net
invariant-loop-net l = record {
  as_many : length l.by_group.items ≡ length l.initial.by_group.items;
  added : IsListedIn l.process (take l.net-index l.nets) l.runs.first.items (rows l.initial.by_group.items) (rows l.by_group.items);
}
