-- How the parser reads identifiers, subtypes, and declarations of objects and types.
use Rattle.std.specs.Prelude.{ℕ, List, Vec, Option, Some, None}
use Rattle.std.specs.Global.{Global}
use Rattle.vhdl_lexer.specs.declared.language.Language.{Language}
use Rattle.vhdl_lexer.specs.declared.language.Language.TheVariants.{Wide}
use Rattle.vhdl_lexer.specs.declared.token.TokenKind.{TokenKind}
use Rattle.vhdl_lexer.specs.declared.token.TokenKind.TheVariants as k
use Rattle.vhdl_tree.specs.declared.expression.Identifier as code_identifier
use Rattle.vhdl_tree.specs.declared.expression.Value as code_value
use Rattle.vhdl_tree.specs.declared.declaration.Subtype as code_subtype
use Rattle.vhdl_tree.specs.Tree.{Ident, Value, Constraint, index_range, value_range, Subtype, Constants, Enumeration, SubtypeDeclaration}
use Rattle.vhdl_tree.specs.View.{idents_view, subtype_view, option_value_view}
use Rattle.vhdl_parser_expressions.specs.reader.Input.{Parser, ◌>>=◌, ◌>>◌, ◌<<◌, ◌<$>◌, pure, is_kind, test, test_in, expect, identifier, optional, separated, below, in_parens}
use Rattle.vhdl_parser_expressions.specs.reader.Values.{discrete_range, value}
use Rattle.vhdl_parser_statements.specs.reader.Wide.{wide}

-- id { , id }
abbrev pub idents : Parser (List Ident)
idents = separated k.Comma identifier

-- ( range )
unfoldable pub index_constraint : Language → ℕ → Parser Constraint
index_constraint language n = index_range <$> in_parens (discrete_range language) n

-- range range, in which the first `range` is the reserved word
unfoldable pub range_constraint : ℕ → Parser Constraint
range_constraint n = value_range <$> (expect k.Range >> discrete_range Wide n)

unfoldable pub optional_constraint : Language → ℕ → Parser (Option Constraint)
optional_constraint language n =
    test (is_kind k.LeftParen) (Some <$> index_constraint language n)
    (test_in language (is_kind k.Range) (Some <$> range_constraint n) (pure None))

unfoldable pub subtype : Language → ℕ → Parser Subtype
subtype language n = do
  mark ← identifier
  c ← optional_constraint language n
  pure (record { mark = mark; constraint = c })

unfoldable pub default_value : Language → ℕ → Parser Value
default_value language n = expect k.Assign >> value language n

unfoldable pub optional_default : Language → ℕ → Parser (Option Value)
optional_default language n = optional (is_kind k.Assign) (default_value language n)

-- names, subtype and default
pub record Objects : Type 0 where
  pub names : List Ident
  pub subtype : Subtype
  pub default : Option Value

-- word ids : subtype [ := value ] ;
unfoldable pub objects : Language → ℕ → TokenKind → Parser Objects
objects language n word = do
  expect word
  names ← idents
  expect k.Colon
  t ← subtype language n
  d ← optional_default language n
  expect k.Semicolon
  pure (record { names = names; subtype = t; default = d })

abbrev pub objects_view : Vec code_identifier.Identifier Global × code_subtype.Subtype × Option code_value.Value
    → Objects
objects_view o = record { names = idents_view o.0; subtype = subtype_view o.1; default = option_value_view o.2 }

unfoldable pub constant_value : Language → ℕ → Parser Value
constant_value language n = do
  expect k.Assign
  value language n << k.Semicolon

unfoldable pub constants_of : Language → ℕ → Parser Constants
constants_of language n = do
  expect k.Constant
  names ← idents
  expect k.Colon
  t ← subtype language n
  v ← constant_value language n
  pure (record { names = names; subtype = t; value = v })

unfoldable pub enumeration_of : ℕ → Parser Enumeration
enumeration_of n = do
  expect k.Type
  name ← identifier
  expect k.Is
  expect k.LeftParen
  inner ← below n
  literals ← idents
  expect k.RightParen
  expect k.Semicolon
  pure (record { name = name; literals = literals })

-- subtype id is subtype ;
unfoldable pub subtype_declaration : Language → ℕ → Parser SubtypeDeclaration
subtype_declaration language n = do
  wide language
  expect k.Subtype
  name ← identifier
  expect k.Is
  t ← subtype language n
  expect k.Semicolon
  pure (record { name = name; subtype = t })
