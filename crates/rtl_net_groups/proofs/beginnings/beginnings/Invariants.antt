use Rattle.std.proofs.Common.{◌≡◌, length, take}
use Rattle.rtl_net_groups.specs.steps.Marks.{IsMarked, AreMarkedApart}
use Rattle.rtl_net_groups.proofs.beginnings.beginnings.Given as goal

abbrev pub invariant-loop-process : goal.invariant-loop-process
invariant-loop-process l = record {
  as_many : length l.begins.items ≡ length l.declared;
  first : IsMarked l.begins.items 0;
  apart : AreMarkedApart l.begins.items l.declared (take l.process l.nets_of);
}
