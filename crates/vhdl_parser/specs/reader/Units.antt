-- How the parser reads entities, architectures and files.
use Rattle.std.specs.Prelude.{ℕ, Bool, true, false, List, [], Option, Some, None}
use Rattle.vhdl_lexer.specs.declared.language.Language.{Language}
use Rattle.vhdl_lexer.specs.declared.language.Language.TheVariants.{Wide}
use Rattle.vhdl_lexer.specs.declared.token.TokenKind.{TokenKind}
use Rattle.vhdl_lexer.specs.declared.token.TokenKind.TheVariants as k
use Rattle.vhdl_tree.specs.Tree.{Text, Assertion, Entity, Architecture, LibraryUnit, entity, architecture, DesignUnit, File}
use Rattle.vhdl_tree.specs.Levels.{most_open}
use Rattle.vhdl_parser_expressions.specs.reader.Input.{Parser, ◌>>=◌, ◌>>◌, ◌<$>◌, pure, refuse, is_kind, is_more, choose, test, expect, eat, identifier, test_in, optional, many}
use Rattle.vhdl_parser.specs.reader.Concurrent.{assert, concurrents}
use Rattle.vhdl_parser.specs.reader.Context.{context}
use Rattle.vhdl_parser_statements.specs.reader.Sequential.{label}
use Rattle.vhdl_parser_statements.specs.reader.Texts.{text_of}
use Rattle.vhdl_parser_statements.specs.reader.Wide.{is_wide}
use Rattle.vhdl_parser_declarations.specs.reader.Declarations.{optional_generics, optional_ports, declarations}

abbrev pub max_open : ℕ
max_open = most_open

-- ---- what stands behind the ports of an entity, in the wider language alone

abbrev pub begins_attribute : Language → Option TokenKind → Bool
begins_attribute language (Some k.Attribute) = is_wide language
begins_attribute language _ = false

-- { attribute text ; }
unfoldable pub attributes : Language → Parser (List Text)
attributes language = many (begins_attribute language) (text_of language max_open k.Attribute) []

-- an identifier is a label here
abbrev pub begins_assertion : Option TokenKind → Bool
begins_assertion (Some k.Identifier) = true
begins_assertion (Some k.Assert) = true
begins_assertion _ = false

-- [ id : ] assert text ;
unfoldable pub entity_assertion : Parser Assertion
entity_assertion = optional (is_kind k.Identifier) label >>= assert Wide max_open

-- begin { assertion }
unfoldable pub entity_statements : Parser (List Assertion)
entity_statements = expect k.Begin >> many begins_assertion entity_assertion []

unfoldable pub optional_statements : Language → Parser (Option (List Assertion))
optional_statements language = test_in language (is_kind k.Begin) (Some <$> entity_statements) (pure None)

unfoldable pub entity_unit : Language → Parser Entity
entity_unit language = do
  at ← expect k.Entity
  name ← identifier
  expect k.Is
  gs ← optional_generics language max_open
  ps ← optional_ports language max_open
  texts ← attributes language
  ss ← optional_statements language
  expect k.End
  word ← eat k.Entity
  last ← optional (is_kind k.Identifier) identifier
  expect k.Semicolon
  pure (record {
    at = at;
    name = name;
    generics = gs;
    ports = ps;
    attributes = texts;
    statements = ss;
    end_word = word;
    end_name = last;
  })

unfoldable pub architecture_unit : Language → Parser Architecture
architecture_unit language = do
  at ← expect k.Architecture
  name ← identifier
  expect k.Of
  of_entity ← identifier
  expect k.Is
  ds ← declarations language max_open
  expect k.Begin
  found ← concurrents language max_open
  expect k.End
  word ← eat k.Architecture
  last ← optional (is_kind k.Identifier) identifier
  expect k.Semicolon
  pure (record {
    at = at;
    name = name;
    entity = of_entity;
    declarations = ds;
    statements = found;
    end_word = word;
    end_name = last;
  })

abbrev pub library_unit_by : Language → Option TokenKind → Parser LibraryUnit
library_unit_by language (Some k.Entity) = entity <$> entity_unit language
library_unit_by language (Some k.Architecture) = architecture <$> architecture_unit language
library_unit_by language _ = refuse

unfoldable pub library_unit : Language → Parser LibraryUnit
library_unit language = choose (library_unit_by language)

unfoldable pub unit : Language → Parser DesignUnit
unit language = do
  before ← context
  u ← library_unit language
  pure (record { context = before; unit = u })

unfoldable pub units : Language → Parser (List DesignUnit)
units language = many is_more (unit language) []

unfoldable pub finish : Parser (Unit {0})
finish = test is_more refuse (pure tt)

unfoldable pub file : Language → Parser File
file language = do
  found ← units language
  finish
  pure (record { units = found })
