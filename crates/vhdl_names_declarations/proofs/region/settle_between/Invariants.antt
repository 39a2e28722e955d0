use Rattle.std.proofs.Common.{◌≡◌, ◌+◌, ◌-◌}
use Rattle.indexmap.specs.IndexMap.{index_map_len}
use Rattle.vhdl_names_sight.specs.Views.{region_view}
use Rattle.vhdl_names_declarations.specs.Counts.{next_of}
use Rattle.vhdl_names_declarations.specs.Settled.{class_view, settled_between}
use Rattle.vhdl_names_declarations.proofs.Settling.{between}
use Rattle.vhdl_names_declarations.proofs.region.settle_between.Given as goal

-- what is left, on what is done, gives the whole
abbrev pub invariant-loop-place : goal.invariant-loop-place
invariant-loop-place l =
    (settled_between l.settled l.counts l.first l.last (region_view l.initial.region)
    ≡ between (class_view l.settled.class) l.settled.direction l.settled.is_global (next_of l.counts l.settled.class + (l.place - l.first)) (l.counts.ranges + (l.place - l.first)) l.place l.last (region_view l.region))
    × (index_map_len l.region ≡ index_map_len l.initial.region)
