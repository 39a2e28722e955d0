use Rattle.std.proofs.Common.{◌++◌, take}
use Rattle.vhdl_names_sight.specs.Views.{region_view}
use Rattle.vhdl_names_declarations.specs.Counts.{AreCounts}
use Rattle.vhdl_names_declarations.proofs.counts.Counts.further.Given as goal

-- the region, and what stands before the place among the process's, are counted
abbrev pub invariant-loop-place : goal.invariant-loop-place
invariant-loop-place l = AreCounts l.counts (region_view l.region ++ take l.place (region_view l.variables))
