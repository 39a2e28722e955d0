use Rattle.std.proofs.Common.{◌≡◌, List, map, drop}
use Rattle.vhdl_tree.specs.View.{view}
use Rattle.vhdl_names_rules.specs.Instances.{GenericFormal}
use Rattle.vhdl_names_units.specs.Once.{names_view}
use Rattle.vhdl_names_instances.specs.Table.{kind_of}
use Rattle.vhdl_names_instances.proofs.Sorted.{generics_of}
use Rattle.vhdl_names_instances.proofs.Porting.{of_those, fit}
use Rattle.vhdl_names_instances.proofs.maps.named_generics.Given as goal

abbrev pub invariant-loop-index : goal.invariant-loop-index
invariant-loop-index l =
    (all : List GenericFormal) → names_view l.formals.generics ≡ map (λ (f : GenericFormal). f.name) all → l.formals.generic_kinds.items ≡ map kind_of all
    → (of_those (generics_of l.sight) l.name (view l.e) all ≡ of_those (generics_of l.sight) l.name (view l.e) (drop l.index all))
    × (fit (generics_of l.sight) all l.name (view l.e) ≡ fit (generics_of l.sight) (drop l.index all) l.name (view l.e))
