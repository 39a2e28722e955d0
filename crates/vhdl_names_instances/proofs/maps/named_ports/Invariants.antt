use Rattle.std.proofs.Common.{◌≡◌, List, map, drop}
use Rattle.vhdl_tree.specs.View.{view}
use Rattle.vhdl_names_rules.specs.Instances.{Formal}
use Rattle.vhdl_names_units.specs.Once.{names_view}
use Rattle.vhdl_names_instances.specs.Table.{type_of}
use Rattle.vhdl_names_instances.proofs.Sorted.{ports}
use Rattle.vhdl_names_instances.proofs.Porting.{of_those, fit}
use Rattle.vhdl_names_instances.proofs.maps.named_ports.Given as goal

abbrev pub invariant-loop-index : goal.invariant-loop-index
invariant-loop-index l =
    (all : List Formal) → names_view l.formals.ports ≡ map (λ (f : Formal). f.name) all → l.formals.port_types.items ≡ map type_of all
    → (of_those (ports l.sight) l.name (view l.e) all ≡ of_those (ports l.sight) l.name (view l.e) (drop l.index all))
    × (fit (ports l.sight) all l.name (view l.e) ≡ fit (ports l.sight) (drop l.index all) l.name (view l.e))
