-- Aggregates as operands.
use Rattle.std.specs.Prelude.{ℕ, Bool, true, false, ◌&&◌, if◌then◌else◌, Option, Some, None, option_map}
use Rattle.vhdl_tree.specs.declared.operator.Operator.{Operator}
use Rattle.vhdl_names_rules.specs.declared.kind.ElementKind.{ElementKind}
use Rattle.vhdl_names_rules.specs.declared.fault.NameProblem.TheVariants.{TypeMismatch}
use Rattle.vhdl_names_rules.specs.Types.{Typed, elements, composite, TypedElements}
use Rattle.vhdl_names_rules.specs.Rules.{◌>>=◌, ◌>>◌, rule}
use Rattle.vhdl_names_rules.specs.Operators.{beside_vector, is_vector}
use Rattle.vhdl_names_rules.specs.problems.Broken.{Broken, nothing, refused, ◌▸◌, unless}
use Rattle.vhdl_names_rules.specs.problems.Aggregates.{aggregate}
use Rattle.vhdl_names_rules.specs.problems.Expressions.{is_equality}

abbrev pub kind_of : Typed → Option ElementKind
kind_of (elements k x) = Some k
kind_of _ = None

abbrev pub is_plain : Typed → Bool
is_plain (composite at es) = false
is_plain _ = true

-- the kind of the vector that an aggregate is beside an operand of this kind
abbrev pub vector_kind : Operator → (other : Option ElementKind) → Option ElementKind
vector_kind op None = None
vector_kind op (Some k) = if is_vector k && is_equality op then Some k else None

-- an operand beside one of this kind
abbrev pub resolved : Operator → (other : Option ElementKind) → Typed → Option Typed
resolved op other (composite at es) = do
  rule TypeMismatch (is_equality op)
  k ← other
  option_map (elements k) (beside_vector k at es)
resolved op other x = Some x

-- which rule it breaks
abbrev pub beside_kind : (at : ℕ) → TypedElements → Option ElementKind → Broken
beside_kind at es (Some k) = unless TypeMismatch at (is_vector k) ▸ aggregate k false es
beside_kind at es None = refused TypeMismatch at

abbrev pub operand_breaks : Operator → (other : Option ElementKind) → Typed → Broken
operand_breaks op other (composite at es) = unless TypeMismatch at (is_equality op) ▸ beside_kind at es other
operand_breaks op other x = nothing
