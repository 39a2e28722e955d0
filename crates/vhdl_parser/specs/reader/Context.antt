-- How the parser reads context clauses.
use Rattle.std.specs.Prelude.{List, [], Bool, true, false, Option, Some}
use Rattle.vhdl_lexer.specs.declared.token.TokenKind.{TokenKind}
use Rattle.vhdl_lexer.specs.declared.token.TokenKind.TheVariants as k
use Rattle.vhdl_tree.specs.Tree.{Selected, ContextItem, library, uses}
use Rattle.vhdl_parser_expressions.specs.reader.Input.{Parser, ◌>>=◌, ◌>>◌, pure, is_kind, test, expect, identifier, many, separated}
use Rattle.vhdl_parser_statements.specs.reader.Subtypes.{idents}

unfoldable pub selected : Parser Selected
selected = do
  place ← identifier
  expect k.Dot
  name ← identifier
  expect k.Dot
  expect k.All
  pure (record { library = place; name = name })

abbrev pub selecteds : Parser (List Selected)
selecteds = separated k.Comma selected

unfoldable pub library_clause : Parser ContextItem
library_clause = do
  expect k.Library
  names ← idents
  expect k.Semicolon
  pure (library names)

unfoldable pub use_clause : Parser ContextItem
use_clause = do
  expect k.Use
  all ← selecteds
  expect k.Semicolon
  pure (uses all)

unfoldable pub context_item : Parser ContextItem
context_item = test (is_kind k.Library) library_clause use_clause

abbrev pub begins_context : Option TokenKind → Bool
begins_context (Some k.Library) = true
begins_context (Some k.Use) = true
begins_context _ = false

unfoldable pub context : Parser (List ContextItem)
context = many begins_context context_item []
