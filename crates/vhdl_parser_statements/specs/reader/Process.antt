-- How the parser reads processes.
use Rattle.std.specs.Prelude.{ℕ, Bool, true, false, List, [], Vec, Option, Some, None}
use Rattle.std.specs.Global.{Global}
use Rattle.vhdl_lexer.specs.declared.language.Language.{Language}
use Rattle.vhdl_lexer.specs.declared.language.Language.TheVariants.{Profile, Wide}
use Rattle.vhdl_lexer.specs.declared.token.TokenKind.{TokenKind}
use Rattle.vhdl_lexer.specs.declared.token.TokenKind.TheVariants as k
use Rattle.vhdl_tree.specs.declared.expression.Identifier as code_identifier
use Rattle.vhdl_tree.specs.declared.process.Wait as code_wait
use Rattle.vhdl_tree.specs.declared.sequential.Sequential as code_sequential
use Rattle.vhdl_tree.specs.Tree.{Ident, Name, Variables, ProcessDeclaration, variables, process_constants, process_enumeration, process_subtype, Wait, Process, Sensitivity, absent, every, listed, Sequential}
use Rattle.vhdl_tree.specs.View.{option_ident_view, option_wait_view, sequentials_view}
use Rattle.vhdl_parser_expressions.specs.reader.Input.{Parser, ◌>>=◌, ◌>>◌, ◌<$>◌, pure, refuse, is_kind, choose, test, expect, eat, optional, many, separated, in_parens}
use Rattle.vhdl_parser_expressions.specs.reader.Expressions.{expr, inner, name}
use Rattle.vhdl_parser_statements.specs.reader.Subtypes.{objects, constants_of, enumeration_of, subtype_declaration}
use Rattle.vhdl_parser_statements.specs.reader.Sequential.{end_of, statements}
use Rattle.vhdl_parser_statements.specs.reader.Wide.{is_wide, wide}

abbrev pub names : Language → ℕ → Parser (List Name)
names language n = separated k.Comma (name (inner language n))

unfoldable pub sensitivity_list : Language → ℕ → Parser Sensitivity
sensitivity_list language m = test (is_kind k.All) (expect k.All >> pure every) (listed <$> names language m)

unfoldable pub sensitivity : Language → ℕ → Parser Sensitivity
sensitivity language n = in_parens (sensitivity_list language) n

unfoldable pub optional_sensitivity : Language → ℕ → Parser Sensitivity
optional_sensitivity language n = test (is_kind k.LeftParen) (sensitivity language n) (pure absent)

unfoldable pub variables_of : Language → ℕ → Parser Variables
variables_of language n =
    (λ o. record { names = o.names; subtype = o.subtype; default = o.default }) <$> objects language n k.Variable

-- whether a declaration begins
abbrev pub begins_process_declaration : Language → Option TokenKind → Bool
begins_process_declaration language (Some k.Variable) = true
begins_process_declaration language (Some k.Constant) = is_wide language
begins_process_declaration language (Some k.Type) = is_wide language
begins_process_declaration language (Some k.Subtype) = is_wide language
begins_process_declaration language _ = false

module _ (language : Language) (n : ℕ) where
  abbrev pub process_declaration_by : Option TokenKind → Parser ProcessDeclaration
  process_declaration_by (Some k.Variable) = variables <$> variables_of language n
  process_declaration_by (Some k.Constant) = process_constants <$> (wide language >> constants_of language n)
  process_declaration_by (Some k.Type) = process_enumeration <$> (wide language >> enumeration_of n)
  process_declaration_by (Some k.Subtype) = process_subtype <$> subtype_declaration language n
  process_declaration_by _ = refuse

  unfoldable pub process_declaration : Parser ProcessDeclaration
  process_declaration = choose process_declaration_by

  abbrev pub process_declarations : Parser (List ProcessDeclaration)
  process_declarations = many (begins_process_declaration language) process_declaration []

-- wait until expr ;
unfoldable pub wait_until : ℕ → Parser Wait
wait_until n = do
  at ← expect k.Wait
  expect k.Until
  e ← expr Wide n
  expect k.Semicolon
  pure (record { at = at; condition = e })

-- where the wider language is read, one if it begins
abbrev pub optional_wait : Language → ℕ → Parser (Option Wait)
optional_wait Profile n = pure None
optional_wait Wide n = optional (is_kind k.Wait) (wait_until n)

-- what a process does, and the label at its end
pub record Body : Type 0 where
  pub wait : Option Wait
  pub statements : List Sequential
  pub end_label : Option Ident

unfoldable pub body : Language → ℕ → Parser Body
body language n = do
  expect k.Begin
  first ← optional_wait language n
  found ← statements language n
  last ← end_of k.Process
  pure (record { wait = first; statements = found; end_label = last })

abbrev pub body_view : Option code_wait.Wait × Vec code_sequential.Sequential Global × Option code_identifier.Identifier
    → Body
body_view b =
    record { wait = option_wait_view b.0; statements = sequentials_view b.1; end_label = option_ident_view b.2 }

unfoldable pub process : Language → ℕ → Parser Process
process language n = do
  at ← expect k.Process
  s ← optional_sensitivity language n
  word ← eat k.Is
  ds ← process_declarations language n
  b ← body language n
  pure (record {
    at = at;
    sensitivity = s;
    is_word = word;
    declarations = ds;
    wait = b.wait;
    statements = b.statements;
    end_label = b.end_label;
  })
