use Rattle.std.proofs.Common.{◌≡◌, length}
use Rattle.rtl_net_groups.specs.steps.Numbered.{IsNumbered}
use Rattle.rtl_net_groups.proofs.runs.Runs.new.Given as goal

abbrev pub invariant-loop-net : goal.invariant-loop-net
invariant-loop-net l = record {
  as_many : length l.runs.of_net.items ≡ l.net;
  numbered : IsNumbered l.begins l.runs.of_net.items l.runs.first.items;
}
