use Rattle.std.proofs.Common.{◌≡◌, map, drop}
use Rattle.vhdl_names_rules.specs.Declarations.{in_order, generic}
use Rattle.vhdl_names_rules.specs.Visibility.{with_declared}
use Rattle.vhdl_tree.specs.View.{generic_view}
use Rattle.vhdl_names_units.specs.views.Declarations.{all_generics_view}
use Rattle.vhdl_names_declarations.specs.Counts.{AreCounts}
use Rattle.vhdl_names_rules.specs.declared.fault.NameFault.{NameFault}
use Rattle.vhdl_names_rules.specs.problems.Broken.{Tells}
use Rattle.vhdl_names_rules.specs.problems.Interfaces as interfaces_broken
use Rattle.vhdl_names_declarations.specs.Entered.{entering}
use Rattle.vhdl_names_declarations.proofs.Listed.{left}
use Rattle.vhdl_names_declarations.proofs.generics.generics.Given as goal

-- what is left, on what is done, gives the whole; what is in the region is counted; nothing else in sight changes; what is told of what is left is told of the whole
abbrev pub invariant-loop-one : goal.invariant-loop-one
invariant-loop-one l =
    (entering (in_order with_declared generic) l.initial.sight (map generic_view l.all) ≡ left generic generic_view l.sight (all_generics_view l.done) l.all l.one-index)
    × AreCounts l.counts l.sight.region
    × (l.sight ≡ record l.initial.sight { region = l.sight.region })
    × ((f : NameFault) → Tells (interfaces_broken.generics l.sight (map generic_view (drop l.one-index l.all))) f → Tells (interfaces_broken.generics l.initial.sight (map generic_view l.all)) f)
