use Rattle.std.proofs.Common.{◌≡◌, map, drop}
use Rattle.vhdl_names_rules.specs.Rules.{each}
use Rattle.vhdl_tree.specs.View.{name_view}
use Rattle.vhdl_names_units.specs.Lists.{in_turn, one_more}
use Rattle.vhdl_names_rules.specs.problems.Broken.{any_of}
use Rattle.vhdl_names_rules.specs.problems.Statements as statements
use Rattle.vhdl_names.specs.AllPlaces.{all_places_view}
use Rattle.vhdl_names.specs.steps.Processes.{place_of}
use Rattle.vhdl_names.proofs.processes.places.Given as goal

-- what is left, on what is done, gives the whole and is told as the whole
abbrev pub invariant-loop-name : goal.invariant-loop-name
invariant-loop-name l =
    (each (place_of l.sight) (map name_view l.names)
    ≡ in_turn (one_more (place_of l.sight)) (all_places_view l.all) (map name_view (drop l.name-index l.names)))
    × (any_of (statements.signal l.sight) (map name_view l.names)
    ≡ any_of (statements.signal l.sight) (map name_view (drop l.name-index l.names)))
