use Rattle.std.proofs.Common.{◌≡◌, map, drop}
use Rattle.vhdl_names_rules.specs.Declarations.{in_order, port}
use Rattle.vhdl_names_rules.specs.Visibility.{with_declared}
use Rattle.vhdl_tree.specs.View.{port_view}
use Rattle.vhdl_names_units.specs.views.Declarations.{all_ports_view}
use Rattle.vhdl_names_declarations.specs.Counts.{AreCounts}
use Rattle.vhdl_names_rules.specs.declared.fault.NameFault.{NameFault}
use Rattle.vhdl_names_rules.specs.problems.Broken.{Tells}
use Rattle.vhdl_names_rules.specs.problems.Interfaces as interfaces_broken
use Rattle.vhdl_names_declarations.specs.Entered.{entering}
use Rattle.vhdl_names_declarations.proofs.Listed.{left}
use Rattle.vhdl_names_declarations.proofs.ports.narrow_ports.Given as goal

-- what is left, on what is done, gives the whole; what is in the region is counted; nothing else in sight changes; what is told of what is left is told of the whole
abbrev pub invariant-loop-one : goal.invariant-loop-one
invariant-loop-one l =
    (entering (in_order with_declared port) l.initial.sight (map port_view l.all) ≡ left port port_view l.sight (all_ports_view l.done) l.all l.one-index)
    × AreCounts l.counts l.sight.region
    × (l.sight ≡ record l.initial.sight { region = l.sight.region })
    × ((f : NameFault) → Tells (interfaces_broken.ports l.sight (map port_view (drop l.one-index l.all))) f → Tells (interfaces_broken.ports l.initial.sight (map port_view l.all)) f)
