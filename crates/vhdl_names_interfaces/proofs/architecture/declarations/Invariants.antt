use Rattle.std.proofs.Common.{◌≡◌, [], map, drop}
use Rattle.vhdl_names_rules.specs.Declarations.{in_order}
use Rattle.vhdl_names_rules.specs.Files.{declaration}
use Rattle.vhdl_names_rules.specs.Visibility.{with_declared}
use Rattle.vhdl_tree.specs.View.{declaration_view}
use Rattle.vhdl_names_units.specs.views.Declarations.{declarations_view}
use Rattle.vhdl_names_declarations.specs.Counts.{AreCounts}
use Rattle.vhdl_names_declarations.specs.Entered.{entering}
use Rattle.vhdl_names_rules.specs.declared.fault.NameFault.{NameFault}
use Rattle.vhdl_names_rules.specs.problems.Broken.{Tells}
use Rattle.vhdl_names_rules.specs.problems.Declarations as declarations_broken
use Rattle.vhdl_names_rules.specs.problems.Files as broken
use Rattle.vhdl_names_declarations.proofs.Listed.{left}
use Rattle.vhdl_names_interfaces.specs.Views.{entities_view}
use Rattle.vhdl_names_interfaces.proofs.architecture.declarations.Given as goal

-- what is left, on what is done, gives the whole; what is in the region is counted; no region encloses it;
-- what is told of what is left is told of the whole
abbrev pub invariant-loop-one : goal.invariant-loop-one
invariant-loop-one l =
    let declares = declaration (entities_view l.entities) in
    (entering (in_order with_declared declares) l.initial.sight (map declaration_view l.all)
    ≡ left declares declaration_view l.sight (declarations_view l.done) l.all l.one-index)
    × AreCounts l.counts l.sight.region
    × (l.sight.enclosing ≡ [])
    × ((f : NameFault) → Tells (declarations_broken.in_order with_declared (declaration (entities_view l.entities)) (broken.declaration (entities_view l.entities)) l.sight (map declaration_view (drop l.one-index l.all))) f
    → Tells (declarations_broken.in_order with_declared (declaration (entities_view l.entities)) (broken.declaration (entities_view l.entities)) l.initial.sight (map declaration_view l.all)) f)
