use Rattle.std.proofs.Common.{◌-◌, length}
use Rattle.rtl_net_groups.specs.steps.Cutting.{AreCutsTo}
use Rattle.rtl_net_groups.proofs.cuts.CutRow.new.Given as goal

abbrev pub invariant-loop-place : goal.invariant-loop-place
invariant-loop-place l = AreCutsTo l.of_net l.targets l.place l.row.cuts.items l.row.numbers.items

abbrev pub decreases-loop-place : goal.decreases-loop-place
decreases-loop-place l = length l.targets - l.place
