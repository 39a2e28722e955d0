-- How the parser reads generics, ports and declarations.
use Rattle.std.specs.Prelude.{ℕ, Bool, true, false, List, [], Option, Some, None}
use Rattle.vhdl_lexer.specs.declared.language.Language.{Language}
use Rattle.vhdl_lexer.specs.declared.language.Language.TheVariants.{Profile, Wide}
use Rattle.vhdl_lexer.specs.declared.token.TokenKind.{TokenKind}
use Rattle.vhdl_lexer.specs.declared.token.TokenKind.TheVariants as k
use Rattle.vhdl_tree.specs.declared.declaration.Mode.{Mode}
use Rattle.vhdl_tree.specs.declared.declaration.Mode.TheVariants.{In, Out}
use Rattle.vhdl_tree.specs.Tree.{Expr, Subtype, Generic, Port, Signals, Component, Declaration, signals, constants, enumeration, component, subtype_of, attribute_of}
use Rattle.vhdl_parser_expressions.specs.reader.Input.{Parser, ◌>>=◌, ◌>>◌, ◌<$>◌, pure, refuse, is_kind, choose, expect, eat, identifier, optional, many, separated, below}
use Rattle.vhdl_parser_expressions.specs.reader.Expressions.{expr}
use Rattle.vhdl_parser_statements.specs.reader.Sequential.{end_of}
use Rattle.vhdl_parser_statements.specs.reader.Subtypes.{idents, subtype, optional_default, objects, constants_of, enumeration_of, subtype_declaration}
use Rattle.vhdl_parser_statements.specs.reader.Texts.{text_of}
use Rattle.vhdl_parser_statements.specs.reader.Wide.{is_wide}

-- ---- generics and ports

-- item { ; item }
abbrev pub items : {A : Type 0} → (ℕ → Parser A) → ℕ → Parser (List A)
items item n = separated k.Semicolon (item n)

-- word ( items ) ;
abbrev pub clause : {A : Type 0} → TokenKind → (ℕ → Parser A) → ℕ → Parser (List A)
clause word item n = do
  expect word
  expect k.LeftParen
  inner ← below n
  found ← items item inner
  expect k.RightParen
  expect k.Semicolon
  pure found

abbrev pub generic_default : Language → ℕ → Parser Expr
generic_default language n = expect k.Assign >> expr language n

unfoldable pub optional_generic_default : Language → ℕ → Parser (Option Expr)
optional_generic_default language n = optional (is_kind k.Assign) (generic_default language n)

-- a type's name alone, or in the wider language any subtype
unfoldable pub generic_subtype : Language → ℕ → Parser Subtype
generic_subtype Profile n = (λ mark. record { mark = mark; constraint = None }) <$> identifier
generic_subtype Wide n = subtype Wide n

unfoldable pub generic : Language → ℕ → Parser Generic
generic language n = do
  word ← eat k.Constant
  names ← idents
  expect k.Colon
  way ← eat k.In
  t ← generic_subtype language n
  d ← optional_generic_default language n
  pure (record { constant_word = word; names = names; in_word = way; subtype = t; default = d })

unfoldable pub optional_generics : Language → ℕ → Parser (Option (List Generic))
optional_generics language n = optional (is_kind k.Generic) (clause k.Generic (generic language) n)

abbrev pub mode_by : Option TokenKind → Parser (Option Mode)
mode_by (Some k.In) = expect k.In >> pure (Some In)
mode_by (Some k.Out) = expect k.Out >> pure (Some Out)
mode_by _ = pure None

unfoldable pub mode : Parser (Option Mode)
mode = choose mode_by

unfoldable pub port : Language → ℕ → Parser Port
port language n = do
  word ← eat k.Signal
  names ← idents
  expect k.Colon
  way ← mode
  t ← subtype language n
  d ← optional_default language n
  pure (record { signal_word = word; names = names; mode = way; subtype = t; default = d })

unfoldable pub optional_ports : Language → ℕ → Parser (Option (List Port))
optional_ports language n = optional (is_kind k.Port) (clause k.Port (port language) n)

-- ---- declarations

unfoldable pub signals_of : Language → ℕ → Parser Signals
signals_of language n =
    (λ o. record { names = o.names; subtype = o.subtype; default = o.default }) <$> objects language n k.Signal

unfoldable pub component_of : Language → ℕ → Parser Component
component_of language n = do
  expect k.Component
  name ← identifier
  word ← eat k.Is
  gs ← optional_generics language n
  ps ← optional_ports language n
  last ← end_of k.Component
  pure (record { name = name; is_word = word; generics = gs; ports = ps; end_name = last })

module _ (language : Language) (n : ℕ) where
  abbrev pub declaration_by : Option TokenKind → Parser Declaration
  declaration_by (Some k.Signal) = signals <$> signals_of language n
  declaration_by (Some k.Constant) = constants <$> constants_of language n
  declaration_by (Some k.Type) = enumeration <$> enumeration_of n
  declaration_by (Some k.Component) = component <$> component_of language n
  declaration_by (Some k.Subtype) = subtype_of <$> subtype_declaration language n
  declaration_by (Some k.Attribute) = attribute_of <$> text_of language n k.Attribute
  declaration_by _ = refuse

  unfoldable pub declaration : Parser Declaration
  declaration = choose declaration_by

abbrev pub begins_declaration : Language → Option TokenKind → Bool
begins_declaration language (Some k.Signal) = true
begins_declaration language (Some k.Constant) = true
begins_declaration language (Some k.Type) = true
begins_declaration language (Some k.Component) = true
begins_declaration language (Some k.Subtype) = is_wide language
begins_declaration language (Some k.Attribute) = is_wide language
begins_declaration language _ = false

unfoldable pub declarations : Language → ℕ → Parser (List Declaration)
declarations language n = many (begins_declaration language) (declaration language n) []
