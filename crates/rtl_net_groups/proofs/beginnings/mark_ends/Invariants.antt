use Rattle.std.proofs.Common.{◌≡◌, ℕ, ◌<◌}
use Rattle.rtl_net_groups.specs.steps.Marks.{KeepsMarks, IsTold, after}
use Rattle.rtl_net_groups.proofs.beginnings.mark_ends.Given as goal

abbrev pub invariant-loop-net : goal.invariant-loop-net
invariant-loop-net l = record {
  kept : KeepsMarks l.initial.begins.items l.begins.items;
  follows : l.expected ≡ after l.nets l.net-index;
  told : (k : ℕ) → k < l.net-index → IsTold l.begins.items l.nets k;
}
