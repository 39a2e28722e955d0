use Rattle.std.proofs.Common.{◌≡◌, false, List, [], map, drop}
use Rattle.vhdl_tree.specs.View.{association_view}
use Rattle.vhdl_names_rules.specs.Instances.{GenericFormal}
use Rattle.vhdl_names_units.specs.Once.{names_view}
use Rattle.vhdl_names_rules.specs.problems.Broken.{any_of}
use Rattle.vhdl_names_rules.specs.problems.Instances.{associations, generic_actual, generics_named, generic_map}
use Rattle.vhdl_names_instances.specs.Table.{kind_of}
use Rattle.vhdl_names_instances.specs.steps.Maps.{suits, reading}
use Rattle.vhdl_names_instances.proofs.maps.generic_map.Given as goal

abbrev pub invariant-loop-index : goal.invariant-loop-index
invariant-loop-index l =
    (all : List GenericFormal) → names_view l.formals.generics ≡ map (λ (f : GenericFormal). f.name) all → l.formals.generic_kinds.items ≡ map kind_of all
    → (generic_map l.sight all (map association_view l.list)
    ≡ associations (map (λ (f : GenericFormal). f.name) all) (λ n e. any_of (λ f. generic_actual l.sight e f) (generics_named all n))
    (drop l.index (map (λ (f : GenericFormal). f.name) all)) l.is_behind_named (names_view l.taken) (map association_view (drop l.index l.list)))
    × (reading (map (λ (f : GenericFormal). f.name) all) (suits l.sight all) 0 false [] (map association_view l.list)
    ≡ reading (map (λ (f : GenericFormal). f.name) all) (suits l.sight all) l.index l.is_behind_named (names_view l.taken) (map association_view (drop l.index l.list)))
