-- Actuals of generics in the order in which the code comes to them.
use Rattle.std.specs.Prelude.{ℕ, true, List, [], Option, None, slice_get}
use Rattle.vhdl_tree.specs.Tree.{Expr}
use Rattle.vhdl_names_rules.specs.declared.kind.ElementKind.{ElementKind}
use Rattle.vhdl_names_rules.specs.declared.kind.ObjectType.TheVariants.{Elements}
use Rattle.vhdl_names_rules.specs.declared.fault.NameProblem.TheVariants.{TypeMismatch, LeftOut}
use Rattle.vhdl_names_rules.specs.units.Units.{Fixed}
use Rattle.vhdl_names_rules.specs.Types.{Typed, TypedElements}
use Rattle.vhdl_names_rules.specs.Rules.{◌>>=◌, if_any}
use Rattle.vhdl_names_rules.specs.Visibility.{Sight}
use Rattle.vhdl_names_rules.specs.Operators.{is_vector}
use Rattle.vhdl_names_rules.specs.Expressions.{as_value}
use Rattle.vhdl_names_rules.specs.Instances as rules
use Rattle.vhdl_names_rules.specs.Instances.{GenericFormal, generic_actual, aggregate_actual}
use Rattle.vhdl_names_rules.specs.problems.Broken.{Broken, ◌▸◌, unless, lacking}
use Rattle.vhdl_names_rules.specs.problems.Aggregates.{aggregate}
use Rattle.vhdl_names_rules.specs.problems.Expressions.{given}
use Rattle.vhdl_names_values.specs.Fixing.{known_given}
use Rattle.vhdl_names_instances.specs.declared.generics.GenericKind.{GenericKind}
use Rattle.vhdl_names_instances.specs.declared.generics.GenericKind.TheVariants as k
use Rattle.vhdl_names_instances.specs.steps.Actuals.{each_of, one_of}

abbrev pub kind_view : GenericKind → rules.GenericKind
kind_view k.Integer = rules.integer
kind_view k.Boolean = rules.boolean
kind_view (k.Elements kind) = rules.GenericKind.elements kind

-- a formal that is a generic of this kind; nothing rests on its name
abbrev pub formal : GenericKind → GenericFormal
formal k = record { name = []; kind = kind_view k }

-- what an aggregate breaks that starts at one byte, in an actual that starts at another
abbrev pub aggregate_breaks : ElementKind → (at start : ℕ) → TypedElements → Broken
aggregate_breaks k at start es =
    unless TypeMismatch at (is_vector k) ▸ aggregate k true es ▸ lacking LeftOut start (aggregate_actual k at es)

-- an operand that is no aggregate, which starts at this byte
abbrev pub plain_actual : ElementKind → Typed → Option Fixed
plain_actual k x = as_value (Elements k) None x >>= known_given

abbrev pub plain_breaks : ElementKind → (at : ℕ) → Typed → Broken
plain_breaks k at x = given (Elements k) None at x ▸ lacking LeftOut at (plain_actual k x)

abbrev pub generic_entry : Sight → GenericKind → Option Expr → Option (Option Fixed)
generic_entry sight k e = if_any (generic_actual sight (formal k)) e

abbrev pub generic_actuals : Sight → List GenericKind → List (Option Expr) → Option (List (Option Fixed))
generic_actuals sight ks es = each_of (generic_entry sight) ks es

-- the actual of one generic, where there are both
abbrev pub entry : Sight → List GenericKind → List (Option Expr) → ℕ → Option (Option (Option Fixed))
entry sight ks es i = one_of (generic_entry sight) (slice_get ks i) (slice_get es i)
