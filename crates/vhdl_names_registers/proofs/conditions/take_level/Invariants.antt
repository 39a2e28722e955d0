use Rattle.std.proofs.Common.{◌≡◌, map, take, None}
use Rattle.vhdl_names_rules.specs.Edges.{taken, level_of}
use Rattle.vhdl_names_trees.specs.views.Tests.{test_view}
use Rattle.vhdl_names_trees.specs.views.Vectors.{place_view}
use Rattle.vhdl_names_registers.proofs.conditions.take_level.Given as goal

abbrev pub invariant-loop-index : goal.invariant-loop-index
invariant-loop-index l =
    (l.all ≡ l.fn.all) × (taken (level_of (place_view l.place)) (map test_view (take l.index l.all.items)) ≡ None)
