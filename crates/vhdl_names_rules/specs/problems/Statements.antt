-- Which rules sequential statements break (IEEE 1076-2008, clause 10), with the declarations in sight.
use Rattle.std.specs.Prelude.{ℕ, Bool, true, false, not, List, Option}
use Rattle.vhdl_tree.specs.Tree as t
use Rattle.vhdl_tree.specs.Tree.{Ident}
use Rattle.vhdl_names_rules.specs.declared.kind.ObjectType.{ObjectType}
use Rattle.vhdl_names_rules.specs.declared.fault.NameProblem.{NameProblem}
use Rattle.vhdl_names_rules.specs.declared.fault.NameProblem.TheVariants.{Undeclared, WrongKind, TypeMismatch, WriteOfIn}
use Rattle.vhdl_names_rules.specs.Visibility as visibility
use Rattle.vhdl_names_rules.specs.Visibility.{Meaning, Declared, Sight, declaration, label_ends, within_loop}
use Rattle.vhdl_names_rules.specs.Names.{Suffix}
use Rattle.vhdl_names_rules.specs.Expressions as expressions
use Rattle.vhdl_names_rules.specs.Choices.{selector}
use Rattle.vhdl_names_rules.specs.Statements as are
use Rattle.vhdl_names_rules.specs.Statements.{as_signal, as_signal_target, as_variable_target, mode_of, is_input, Target, signal_target, variable_target, choice_lists}
use Rattle.vhdl_names_rules.specs.problems.Broken.{Broken, nothing, ◌▸◌, unless, lacking, where_given, any_of, of_any}
use Rattle.vhdl_names_rules.specs.problems.Expressions.{meaning, no_attribute, typed_suffix, static_range, condition, value_assigned}
use Rattle.vhdl_names_rules.specs.problems.Choices.{choices, selected_by}
use Rattle.vhdl_names_rules.specs.problems.Covered.{covered, any_alternative}

-- ---- names of signals and variables

-- an object's name has no attribute
abbrev pub named : Sight → t.Name → Broken
named sight n = meaning sight n.identifier ▸ typed_suffix sight n.suffix ▸ no_attribute n.attribute

-- a signal or port has no such part; another name is no signal, or not declared yet
abbrev pub signal_problem : Meaning → NameProblem
signal_problem (visibility.port k mode kind) = TypeMismatch
signal_problem (visibility.signal k type) = TypeMismatch
signal_problem visibility.unfinished = Undeclared
signal_problem _ = WrongKind

abbrev pub signal : Sight → t.Name → Broken
signal sight n =
    named sight n
    ▸ where_given (declaration sight n.identifier.text)
    (λ d. where_given (expressions.typed_suffix sight n.suffix)
    (λ s. lacking (signal_problem d.meaning) n.identifier.at (as_signal n.identifier.at d s)))

-- an in port is told behind a part that it hasn't
abbrev pub target_by_declaration : (at : ℕ) → Declared → Suffix → Broken
target_by_declaration at d s =
    lacking (signal_problem d.meaning) at (as_signal_target at d s)
    ▸ unless WriteOfIn at (not (is_input (mode_of d.meaning)))

abbrev pub target : Sight → t.Name → Broken
target sight n =
    named sight n
    ▸ where_given (declaration sight n.identifier.text)
    (λ d. where_given (expressions.typed_suffix sight n.suffix) (target_by_declaration n.identifier.at d))

abbrev pub variable_problem : Meaning → NameProblem
variable_problem (visibility.variable k type) = TypeMismatch
variable_problem visibility.unfinished = Undeclared
variable_problem _ = WrongKind

abbrev pub variable : Sight → t.Name → Broken
variable sight n =
    named sight n
    ▸ where_given (declaration sight n.identifier.text)
    (λ d. where_given (expressions.typed_suffix sight n.suffix)
    (λ s. lacking (variable_problem d.meaning) n.identifier.at (as_variable_target n.identifier.at d s)))

-- ---- statements

-- an end label, if there is one, repeats the label
abbrev pub end_label : Option Ident → Option Ident → Broken
end_label label end = of_any (λ e. unless WrongKind e.at (label_ends label end)) end

-- a target, which is told once, and what is given to it
abbrev pub target_by : Sight → (is_variable : Bool) → t.Name → Broken
target_by sight false n = target sight n
target_by sight true n = variable sight n

abbrev pub given : Sight → Option Target → t.Value → Broken
given sight target v = where_given target (λ x. value_assigned sight x.type x.range v)

abbrev pub assigned : Sight → t.Name → t.Value → Broken
assigned sight n v = target sight n ▸ given sight (signal_target sight n) v

abbrev pub variable_assigned : Sight → t.Name → t.Value → Broken
variable_assigned sight n v = variable sight n ▸ given sight (variable_target sight n) v

-- value when condition else ..
abbrev pub branch : Sight → Option Target → t.Branch → Broken
branch sight target b = given sight target b.value ▸ condition sight b.condition

abbrev pub conditional : Sight → (is_variable : Bool) → t.Name → List t.Branch → Option t.Value → Broken
conditional sight is_variable n bs o =
    target_by sight is_variable n
    ▸ any_of (branch sight (are.target_by sight is_variable n)) bs
    ▸ of_any (given sight (are.target_by sight is_variable n)) o

-- what is chosen by a selector of this type
abbrev pub by_selector : Sight → t.Expr → (ObjectType → Broken) → Broken
by_selector sight e broken =
    selected_by sight e
    ▸ where_given (expressions.typed sight e) (λ x. where_given (selector sight.language x) (λ by. broken by.0))

unfoldable mutual
  pub statement : Sight → Option Ident → t.Statement → Broken
  statement sight label (t.null_of at) = nothing
  statement sight label (t.assigned n v) = assigned sight n v
  statement sight label (t.variable_assigned n v) = variable_assigned sight n v
  statement sight label (t.assigned_when is_variable n bs o) = conditional sight is_variable n bs o
  statement sight label (t.asserted text) = nothing
  statement sight label (t.reported text) = nothing
  statement sight label (t.if_of at bs o end) = conditionals sight bs ▸ otherwise sight o ▸ end_label label end
  statement sight label (t.case_of at e alts end) =
      by_selector sight e (λ type. covered sight type at (choice_lists alts) (alternatives sight type alts))
      ▸ end_label label end ▸ any_alternative at (choice_lists alts)
  statement sight label (t.for_of at n r body end) =
      static_range sight r ▸ statements (within_loop sight n) body ▸ end_label label end

  pub statements : Sight → t.Statements → Broken
  statements sight t.done = nothing
  statements sight (t.step label x xs) = statement sight label x ▸ statements sight xs

  pub conditionals : Sight → t.Conditionals → Broken
  conditionals sight t.no_conditionals = nothing
  conditionals sight (t.guarded e body bs) = condition sight e ▸ statements sight body ▸ conditionals sight bs

  pub otherwise : Sight → t.Otherwise → Broken
  otherwise sight t.no_else = nothing
  otherwise sight (t.else_do body) = statements sight body

  pub alternatives : Sight → ObjectType → t.Alternatives → Broken
  alternatives sight type t.no_alternatives = nothing
  alternatives sight type (t.alternative cs body more) =
      choices sight type cs ▸ statements sight body ▸ alternatives sight type more
