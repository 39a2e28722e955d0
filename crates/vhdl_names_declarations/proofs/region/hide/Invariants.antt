use Rattle.std.proofs.Common.{◌≡◌, map, drop}
use Rattle.vhdl_names_rules.specs.Visibility.{unfinished, all_declared, names_of}
use Rattle.vhdl_tree.specs.View.{ident_view}
use Rattle.vhdl_names_sight.specs.Views.{region_view}
use Rattle.vhdl_names_rules.specs.problems.Declarations.{standing_twice}
use Rattle.vhdl_names_declarations.specs.Entered.{more}
use Rattle.vhdl_names_declarations.proofs.region.hide.Given as goal

-- what is left, on what is done, gives the whole; of what is left the same is told
abbrev pub invariant-loop-name : goal.invariant-loop-name
invariant-loop-name l =
    (more (region_view l.initial.region) (all_declared unfinished (names_of (map ident_view l.names)))
    ≡ more (region_view l.region) (all_declared unfinished (names_of (map ident_view (drop l.name-index l.names)))))
    × (standing_twice (region_view l.initial.region) (map ident_view l.names) ≡ standing_twice (region_view l.region) (map ident_view (drop l.name-index l.names)))
