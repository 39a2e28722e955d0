use Rattle.std.proofs.Common.{◌≡◌, take}
use Rattle.rtl_net_groups.specs.Lists.{rows}
use Rattle.rtl_net_groups.proofs.lists.Lists.from_rows.Given as goal

abbrev pub invariant-loop-list : goal.invariant-loop-list
invariant-loop-list g l = l.all ≡ rows (take l.list-index l.lists)
