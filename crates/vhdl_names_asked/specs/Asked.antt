-- What is asked of an expression beyond a value: a generate's condition, and what a case selects by; and of an
-- object's name.
use Rattle.std.specs.Prelude.{ℕ, not, Option, Some, None, is_none}
use Rattle.vhdl_tree.specs.Tree as t
use Rattle.vhdl_tree.specs.Tree.{Expr, Name}
use Rattle.vhdl_names_rules.specs.declared.kind.ObjectType.{ObjectType}
use Rattle.vhdl_names_rules.specs.declared.kind.ObjectType.TheVariants.{Integers, Booleans}
use Rattle.vhdl_names_rules.specs.units.Expressions as u
use Rattle.vhdl_names_rules.specs.units.Expressions.{Range, StaticTest}
use Rattle.vhdl_names_rules.specs.declared.fault.NameProblem.TheVariants.{TypeMismatch, WriteOfIn, LeftOut}
use Rattle.vhdl_names_rules.specs.Rules.{◌>>=◌, ◌>>◌, rule, wider}
use Rattle.vhdl_names_rules.specs.Ranges.{named_range}
use Rattle.vhdl_names_rules.specs.Visibility.{Sight, Declared, declaration}
use Rattle.vhdl_names_rules.specs.Names.{Suffix}
use Rattle.vhdl_names_rules.specs.Expressions.{typed, typed_suffix, as_range, as_static_test}
use Rattle.vhdl_names_rules.specs.Choices.{Selector, value, truth, selector}
use Rattle.vhdl_names_rules.specs.Operators as operators
use Rattle.vhdl_names_rules.specs.Operators.{Typed, integer}
use Rattle.vhdl_names_rules.specs.Statements.{is_input, mode_of, Target, as_signal_target}
use Rattle.vhdl_names_rules.specs.problems.Broken.{Broken, ◌▸◌, lacking, where_given}
use Rattle.vhdl_names_rules.specs.problems.Expressions as broken

abbrev pub static_condition : Sight → Expr → Option StaticTest
static_condition sight e = typed sight e >>= as_static_test

abbrev pub selected_by : Sight → Expr → Option (ObjectType × Selector)
selected_by sight e = typed sight e >>= selector sight.language

-- an integer or a truth that a case is on in the wider language alone
abbrev pub wide_selector : Typed → Option (ObjectType × Selector)
wide_selector (integer s) = Some (Integers, value (u.Value.computed (u.static s)))
wide_selector (operators.truth t) = Some (Booleans, truth t)
wide_selector _ = None

-- the expression that a boolean is given
abbrev pub boolean_value : ObjectType → t.Value → Option Expr
boolean_value Booleans (t.single e) = Some e
boolean_value _ _ = None

-- the range of a subtype of integers
abbrev pub subtype_range : Sight → Name → Option Range
subtype_range sight n = do
  d ← declaration sight n.identifier.text
  s ← typed_suffix sight n.suffix
  wider sight.language (named_range None d s)

-- a range that is a name with an attribute
abbrev pub attribute_range : Sight → Name → Option Range
attribute_range sight n = typed sight (t.named n.identifier n.suffix n.attribute) >>= as_range

abbrev pub attribute_range_breaks : Sight → Name → Broken
attribute_range_breaks sight n =
    broken.typed sight (t.named n.identifier n.suffix n.attribute)
    ▸ where_given (typed sight (t.named n.identifier n.suffix n.attribute))
    (λ x. lacking TypeMismatch n.identifier.at (as_range x))

-- what a name is declared to be, and what stands behind it; no attribute is offered
abbrev pub unattributed : Sight → Name → Option (Declared × Suffix)
unattributed sight n = do
  d ← declaration sight n.identifier.text
  suffix ← typed_suffix sight n.suffix
  rule LeftOut (is_none n.attribute)
  Some (d, suffix)

-- a target that is a signal, and no in port
abbrev pub driven_target : (at : ℕ) → Declared → Suffix → Option Target
driven_target at d s = do
  x ← as_signal_target at d s
  rule WriteOfIn (not (is_input (mode_of d.meaning)))
  Some x
