use Rattle.std.proofs.Common.{◌≡◌, ◌++◌, map}
use Rattle.std.specs.Prelude.{option_map}
use Rattle.std.specs.Vec.Iter.{into_iter_items}
use Rattle.vhdl_names_units.specs.views.Units as views
use Rattle.vhdl_names_interfaces.specs.Views.{entities_view}
use Rattle.vhdl_names.specs.steps.Architectures.{options_view}
use Rattle.vhdl_names.specs.steps.Units.{joined}
use Rattle.vhdl_names.proofs.Tabling.{entry_view}
use Rattle.vhdl_names.proofs.units.joined.Given as goal

-- those so far, and what is left joined, are the whole
abbrev pub invariant-loop-pair : goal.invariant-loop-pair
invariant-loop-pair l =
    joined (entities_view l.fn.entities) (options_view l.fn.architectures)
    ≡ map views.entity_view l.all.items ++ joined (map entry_view l.pair-iterator) (map (option_map views.architecture_view) (into_iter_items l.rest))
