-- How the parser reads ranges, values, choices and associations, in which so many levels may be opened.
use Rattle.std.specs.Prelude.{ℕ, List, Option, Some, None}
use Rattle.vhdl_lexer.specs.declared.language.Language.{Language}
use Rattle.vhdl_lexer.specs.declared.language.Language.TheVariants.{Profile, Wide}
use Rattle.vhdl_lexer.specs.declared.token.TokenKind.TheVariants as k
use Rattle.vhdl_tree.specs.declared.operator.Direction.{Direction}
use Rattle.vhdl_tree.specs.grammar.Expressions.{direction_kind}
use Rattle.vhdl_tree.specs.Tree.{Ident, Name, Expr, DiscreteRange, bounds, range_named, Value, single, others, Choice, Actual, actual, left_open, Association, value_of, name_of}
use Rattle.vhdl_parser_expressions.specs.reader.Input.{Parser, ◌>>=◌, ◌>>◌, ◌<$>◌, pure, refuse, choose, test, test_both, is_kind, expect, separated, identifier}
use Rattle.vhdl_parser_expressions.specs.reader.Expressions.{direction_at, choice_of, inside, expr}

-- in the wider language a name stands for a range
abbrev pub range_by_name : Language → Option Name → Parser DiscreteRange
range_by_name Wide (Some name) = pure (range_named name)
range_by_name language found = refuse

abbrev pub discrete_range_by : Language → ℕ → Expr → Option Direction → Parser DiscreteRange
discrete_range_by language n left None = range_by_name language (name_of left)
discrete_range_by language n left (Some direction) = do
  expect (direction_kind direction)
  right ← expr language n
  pure (bounds (record { left = left; direction = direction; right = right }))

unfoldable pub discrete_range : Language → ℕ → Parser DiscreteRange
discrete_range language n = do
  left ← expr language n
  choose (λ next. discrete_range_by language n left (direction_at next))

unfoldable pub others_value : ℕ → Parser Value
others_value n = do
  at ← expect k.LeftParen
  expect k.Others
  expect k.Arrow
  e ← inside Profile n
  expect k.RightParen
  pure (others at e)

unfoldable pub value : Language → ℕ → Parser Value
value Profile n = test_both k.LeftParen k.Others (others_value n) (single <$> expr Profile n)
value Wide n = value_of <$> expr Wide n

-- a choice of an alternative
unfoldable pub choice_in : Language → ℕ → Parser Choice
choice_in language n = choice_of (expr language n) language

abbrev pub choices : Language → ℕ → Parser (List Choice)
choices language n = separated k.Bar (choice_in language n)

unfoldable pub formal : Parser Ident
formal = do
  n ← identifier
  expect k.Arrow
  pure n

unfoldable pub optional_formal : Parser (Option Ident)
optional_formal = test_both k.Identifier k.Arrow (Some <$> formal) (pure None)

unfoldable pub actual_of : Language → ℕ → Parser Actual
actual_of language n = test (is_kind k.Open) (left_open <$> expect k.Open) (actual <$> expr language n)

unfoldable pub association : Language → ℕ → Parser Association
association language n = do
  f ← optional_formal
  a ← actual_of language n
  pure (record { formal = f; actual = a })

abbrev pub associations : Language → ℕ → Parser (List Association)
associations language n = separated k.Comma (association language n)
