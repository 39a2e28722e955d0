use Rattle.std.proofs.Common.{take}
use Rattle.vhdl_names_sight.specs.Views.{region_view}
use Rattle.vhdl_names_declarations.specs.Counts.{AreCounts}
use Rattle.vhdl_names_declarations.proofs.counts.Counts.between.Given as goal

-- what stands before the place is counted
abbrev pub invariant-loop-place : goal.invariant-loop-place
invariant-loop-place l = AreCounts l.counts (take l.place (region_view l.region))
