-- Processes in the order in which the code comes to their parts.
use Rattle.std.specs.Prelude.{List, Option, Some, option_map, is_some}
use Rattle.vhdl_tree.specs.Tree as t
use Rattle.vhdl_tree.specs.Tree.{Ident}
use Rattle.vhdl_names_rules.specs.units.Expressions.{SignalPart}
use Rattle.vhdl_names_rules.specs.units.Statements as s
use Rattle.vhdl_names_rules.specs.units.Units as u
use Rattle.vhdl_names_rules.specs.declared.fault.NameProblem.TheVariants.{Twice, WrongKind}
use Rattle.vhdl_names_rules.specs.Rules.{◌>>=◌, ◌>>◌, rule}
use Rattle.vhdl_names_rules.specs.Visibility.{Sight, are_distinct, label_ends, with_variables}
use Rattle.vhdl_names_rules.specs.Declarations.{in_order, process_declaration}
use Rattle.vhdl_names_rules.specs.Statements.{signal, statements, statement_labels}
use Rattle.vhdl_names_rules.specs.Concurrent.{sensitivity, awaited, resumed_by, behind_wait, label_of}
use Rattle.vhdl_names_declarations.specs.Entered.{entering_variables}

abbrev pub place_of : Sight → t.Name → Option SignalPart
place_of sight n = signal sight n >>= λ x. Some x.place

-- what is in sight behind the declarations of a process, and these
abbrev pub declarations_in : Sight → List t.ProcessDeclaration → Option (Sight × List u.Declaration)
declarations_in = entering_variables (in_order with_variables process_declaration)

abbrev pub body : Sight → List t.Sequential → Option s.Statements
body sight qs =
    rule Twice (are_distinct (statement_labels (t.statements_of qs))) >> statements sight (t.statements_of qs)

-- what resumes it, and what it does then, with what it waits for
abbrev pub resumed : Sight → t.Process → u.Sensitivity → Option u.Sensitivity
resumed sight p on = option_map (λ edge. resumed_by edge on) (awaited sight p.sensitivity p.wait)

abbrev pub behind : Sight → t.Process → s.Statements → Option s.Statements
behind sight p xs = option_map (λ edge. behind_wait p.wait edge xs) (awaited sight p.sensitivity p.wait)

abbrev pub process : Sight → Option Ident → t.Process → Option u.Process
process sight label p = do
  on ← sensitivity sight p.sensitivity (is_some p.wait)
  w ← declarations_in sight p.declarations
  resumes ← resumed w.0 p on
  b ← body w.0 p.statements
  does ← behind w.0 p b
  rule WrongKind (label_ends label p.end_label)
  Some (record { at = p.at; label = label_of label; declarations = w.1; sensitivity = resumes; body = does })
