use Rattle.std.proofs.Common.{◌≡◌, ◌++◌, replicate}
use Rattle.rtl_net_groups.proofs.cuts.CutRow.push.Given as goal

abbrev pub invariant-loop-place : goal.invariant-loop-place
invariant-loop-place l = record {
  cuts : l.self.cuts.items ≡ l.initial.self.cuts.items;
  numbers : l.self.numbers.items ≡ l.initial.self.numbers.items ++ replicate l._place l.number;
}
