use Rattle.std.proofs.Common.{◌≡◌, false, List, [], map, drop}
use Rattle.vhdl_tree.specs.View.{association_view}
use Rattle.vhdl_names_rules.specs.Instances.{Formal}
use Rattle.vhdl_names_units.specs.Once.{names_view}
use Rattle.vhdl_names_rules.specs.problems.Broken.{any_of}
use Rattle.vhdl_names_rules.specs.problems.Instances.{associations, port_actual, ports_named, port_map}
use Rattle.vhdl_names_instances.specs.Table.{type_of}
use Rattle.vhdl_names_instances.specs.steps.Maps.{fits, reading}
use Rattle.vhdl_names_instances.proofs.maps.port_map.Given as goal

abbrev pub invariant-loop-index : goal.invariant-loop-index
invariant-loop-index l =
    (all : List Formal) → names_view l.formals.ports ≡ map (λ (f : Formal). f.name) all → l.formals.port_types.items ≡ map type_of all
    → (port_map l.sight all (map association_view l.list)
    ≡ associations (map (λ (f : Formal). f.name) all) (λ n e. any_of (λ f. port_actual l.sight f e) (ports_named all n))
    (drop l.index (map (λ (f : Formal). f.name) all)) l.is_behind_named (names_view l.taken) (map association_view (drop l.index l.list)))
    × (reading (map (λ (f : Formal). f.name) all) (fits l.sight all) 0 false [] (map association_view l.list)
    ≡ reading (map (λ (f : Formal). f.name) all) (fits l.sight all) l.index l.is_behind_named (names_view l.taken) (map association_view (drop l.index l.list)))
