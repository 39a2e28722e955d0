-- How the parser reads instances.
use Rattle.std.specs.Prelude.{ℕ, List}
use Rattle.vhdl_lexer.specs.declared.language.Language.{Language}
use Rattle.vhdl_lexer.specs.declared.token.TokenKind.{TokenKind}
use Rattle.vhdl_lexer.specs.declared.token.TokenKind.TheVariants as k
use Rattle.vhdl_tree.specs.Tree.{Ident, Association, Instantiated, entity_unit, component_unit, Instance}
use Rattle.vhdl_parser_expressions.specs.reader.Input.{Parser, ◌>>=◌, ◌>>◌, pure, is_kind, test, expect, eat, identifier, optional, in_parens}
use Rattle.vhdl_parser_expressions.specs.reader.Values.{associations}

unfoldable pub chosen : ℕ → Parser Ident
chosen n = in_parens (λ m. identifier) n

unfoldable pub of_entity : ℕ → Parser Instantiated
of_entity n = do
  expect k.Entity
  library ← identifier
  expect k.Dot
  name ← identifier
  a ← optional (is_kind k.LeftParen) (chosen n)
  pure (entity_unit library name a)

unfoldable pub of_component : Parser Instantiated
of_component = do
  word ← eat k.Component
  name ← identifier
  pure (component_unit word name)

unfoldable pub instantiated : ℕ → Parser Instantiated
instantiated n = test (is_kind k.Entity) (of_entity n) of_component

unfoldable pub map_of : Language → ℕ → TokenKind → Parser (List Association)
map_of language n word = do
  expect word
  expect k.Map
  in_parens (associations language) n

unfoldable pub instance : Language → ℕ → Parser Instance
instance language n = do
  u ← instantiated n
  g ← optional (is_kind k.Generic) (map_of language n k.Generic)
  p ← optional (is_kind k.Port) (map_of language n k.Port)
  expect k.Semicolon
  pure (record { unit = u; generics = g; ports = p })
