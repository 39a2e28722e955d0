-- What single steps of an expression's analysis answer.
use Rattle.std.specs.Prelude.{Bool, true, false, List, [], ◌∷◌, Option, Some, None}
use Rattle.vhdl_tree.specs.declared.expression.Link.{Link}
use Rattle.vhdl_tree.specs.Tree as t
use Rattle.vhdl_tree.specs.Tree.{Expr}
use Rattle.vhdl_tree.specs.View.{view}
use Rattle.vhdl_names_rules.specs.Rules.{◌>>=◌}
use Rattle.vhdl_names_rules.specs.Visibility.{Sight}
use Rattle.vhdl_names_rules.specs.Expressions.{typed, enclosed}
use Rattle.vhdl_names_rules.specs.Operators.{Typed, interval}
use Rattle.vhdl_names_numbers.specs.Integers.{integer_of}
use Rattle.vhdl_names_operators.specs.Steps.{operated}

abbrev pub enclosed_if : Bool → Typed → Typed
enclosed_if true x = enclosed x
enclosed_if false x = x

abbrev pub is_parens : Expr → Bool
is_parens (t.parens at e) = true
is_parens (t.qualified n at es) = true
is_parens _ = false

-- an operator's right operand, and then the operator, on what its left operand is, which may stand in parentheses
abbrev pub linked : Sight → Bool → Option Typed → Link → Option Typed
linked sight b None l = None
linked sight b (Some x) l =
    typed sight (view l.operand) >>= λ y. operated sight.language sight.numbers l.at l.operator x (enclosed_if b y)

abbrev pub all_linked : Sight → Option Typed → List Link → Option Typed
all_linked sight o [] = o
all_linked sight o (l ∷ ls) = all_linked sight (linked sight false o l) ls

-- the integer that an expression is, which a run may compute
abbrev pub computed_of : Sight → Expr → Option Typed
computed_of sight e = typed sight e >>= integer_of

-- the name of a range alone in parentheses
abbrev pub is_range : Typed → Bool
is_range (interval r) = true
is_range _ = false

abbrev pub is_one_range : List Typed → Bool
is_one_range (x ∷ []) = is_range x
is_one_range _ = false
