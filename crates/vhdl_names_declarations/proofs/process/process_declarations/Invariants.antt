use Rattle.std.proofs.Common.{◌≡◌, ◌++◌, map, drop}
use Rattle.vhdl_names_rules.specs.Declarations.{in_order, process_declaration}
use Rattle.vhdl_names_rules.specs.Visibility.{with_variables}
use Rattle.vhdl_tree.specs.View.{process_declaration_view}
use Rattle.vhdl_names_units.specs.views.Declarations.{declarations_view}
use Rattle.vhdl_names_declarations.specs.Counts.{AreCounts}
use Rattle.vhdl_names_rules.specs.declared.fault.NameFault.{NameFault}
use Rattle.vhdl_names_rules.specs.problems.Broken.{Tells}
use Rattle.vhdl_names_rules.specs.problems.Declarations as broken
use Rattle.vhdl_names_declarations.specs.Entered.{entering_variables}
use Rattle.vhdl_names_declarations.proofs.Listed.{left_variables}
use Rattle.vhdl_names_declarations.proofs.process.process_declarations.Given as goal

-- what is left, on what is done, gives the whole; what is declared here is counted; what is told of what is left is
-- told of the whole
abbrev pub invariant-loop-one : goal.invariant-loop-one
invariant-loop-one l =
    (entering_variables (in_order with_variables process_declaration) l.initial.sight (map process_declaration_view l.all)
    ≡ left_variables process_declaration process_declaration_view l.sight (declarations_view l.done) l.all l.one-index)
    × AreCounts l.counts (l.sight.region ++ l.sight.variables)
    × ((f : NameFault) → Tells (broken.in_order with_variables process_declaration broken.process_declaration l.sight (map process_declaration_view (drop l.one-index l.all))) f
    → Tells (broken.in_order with_variables process_declaration broken.process_declaration l.initial.sight (map process_declaration_view l.all)) f)
