-- Expressions that are one name, and literals as they stand.
use Rattle.std.specs.Prelude.{ℕ, Bool, true, false, List, [], ◌∷◌, Option, Some, None, option_map}
use Rattle.vhdl_values.specs.declared.scalar.Nine.{Nine}
use Rattle.vhdl_tree.specs.Tree as t
use Rattle.vhdl_tree.specs.Tree.{Expr, Exprs, Attribute}
use Rattle.vhdl_names_rules.specs.declared.kind.ElementKind.{ElementKind}
use Rattle.vhdl_names_rules.specs.declared.kind.ElementKind.TheVariants.{Element}
use Rattle.vhdl_names_rules.specs.Literals.{nine_of}
use Rattle.vhdl_names_rules.specs.Names.{Suffix}
use Rattle.vhdl_names_rules.specs.Visibility.{Sight}
use Rattle.vhdl_names_rules.specs.Expressions.{typed, typed_each, is_one_name, suffix_of}
use Rattle.vhdl_names_rules.specs.Operators.{Typed}
use Rattle.vhdl_tree.specs.View.{view}
use Rattle.vhdl_tree.specs.declared.expression.Chain.{Chain, out-Chain}
use Rattle.vhdl_tree.specs.declared.expression.Link.{Link}
use Rattle.vhdl_names_expressions.specs.Steps.{is_parens, linked}

-- a name with no attribute
abbrev pub is_name : Expr → Bool
is_name (t.named n suffix None) = true
is_name _ = false

-- nothing stands behind an identifier
abbrev pub is_bare : t.Suffix → Option Attribute → Bool
is_bare t.plain None = true
is_bare _ _ = false

-- a literal that a vector or an element is
abbrev pub is_literal : Expr → Bool
is_literal (t.character at c) = true
is_literal (t.string at text) = true
is_literal (t.bits at text) = true
is_literal _ = false

-- the character that an expression is
abbrev pub as_character : Expr → Option ℕ
as_character (t.character at c) = Some c
as_character _ = None

-- a character for one element
abbrev pub character_values : ElementKind → ℕ → Option (List Nine)
character_values Element c = option_map (λ v. v ∷ []) (nine_of c)
character_values _ c = None

-- arguments with their types, and whether they are one name alone
abbrev pub arguments_of : Sight → Exprs → Option Suffix
arguments_of sight es = option_map (suffix_of (is_one_name es)) (typed_each sight es)

-- a chain's first operand, and the first operator with its right operand
unfoldable pub started : Sight → Chain → Option Typed
started sight k =
    linked sight (is_parens (view (out-Chain k).first)) (typed sight (view (out-Chain k).first)) (out-Chain k).second

-- its further operators
abbrev pub links_of : Chain → List Link
links_of k = (out-Chain k).rest.items
