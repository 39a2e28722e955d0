-- How the parser reads concurrent statements.
use Rattle.std.specs.Prelude.{ℕ, zero, suc, Bool, true, false, ◌||◌, if◌then◌else◌, List, [], Vec, Option, Some, None}
use Rattle.std.specs.Global.{Global}
use Rattle.vhdl_lexer.specs.declared.language.Language.{Language}
use Rattle.vhdl_lexer.specs.declared.token.TokenKind.{TokenKind}
use Rattle.vhdl_lexer.specs.declared.token.TokenKind.TheVariants as k
use Rattle.vhdl_tree.specs.declared.concurrent.Concurrent as code_concurrent
use Rattle.vhdl_tree.specs.declared.expression.Identifier as code_identifier
use Rattle.vhdl_tree.specs.View.{option_ident_view, concurrents_view}
use Rattle.vhdl_tree.specs.Lexeme.{Lexeme}
use Rattle.vhdl_tree.specs.Tree.{Ident, Assignment, Assertion, Scheme, for_each, if_holds, Concurrent, assignment, selected, process, instance, generated, assertion, concurrents_of}
use Rattle.vhdl_parser_expressions.specs.reader.Input.{Parser, ◌>>=◌, ◌>>◌, ◌<$>◌, pure, refuse, too_deep, choose, sees_both, expect, eat, identifier, many, opened}
use Rattle.vhdl_parser_expressions.specs.reader.Expressions.{expr, inner, name}
use Rattle.vhdl_parser_expressions.specs.reader.Values.{discrete_range}
use Rattle.vhdl_parser_statements.specs.reader.Sequential.{optional_label, end_of}
use Rattle.vhdl_parser_statements.specs.reader.Process as process_reader
use Rattle.vhdl_parser_statements.specs.reader.Waveforms as waveforms_reader
use Rattle.vhdl_parser_statements.specs.reader.Waveforms.{conditional_waveforms}
use Rattle.vhdl_parser_statements.specs.reader.Texts.{text_of}
use Rattle.vhdl_parser_statements.specs.reader.Wide.{is_wide}
use Rattle.vhdl_parser.specs.reader.Instance as instance_reader

-- behind its label
unfoldable pub assign : Language → ℕ → Option Ident → Parser Assignment
assign language n label = do
  target ← name (inner language n)
  expect k.LessEqual
  w ← conditional_waveforms language n
  expect k.Semicolon
  pure (record { label = label; target = target; branches = w.branches; otherwise = w.otherwise })

unfoldable pub assert : Language → ℕ → Option Ident → Parser Assertion
assert language n label = (λ text. record { label = label; text = text }) <$> text_of language n k.Assert

-- whether a statement begins, where statements stand
abbrev pub begins_concurrent : Language → Option TokenKind → Bool
begins_concurrent language (Some k.Identifier) = true
begins_concurrent language (Some k.With) = true
begins_concurrent language (Some k.Process) = true
begins_concurrent language (Some k.Assert) = is_wide language
begins_concurrent language _ = false

abbrev pub select_with : Language → ℕ → Option Ident → Parser Concurrent
select_with language n label = selected label <$> waveforms_reader.selected language n

abbrev pub assign_with : Language → ℕ → Option Ident → Parser Concurrent
assign_with language n label = assignment <$> assign language n label

abbrev pub assert_with : Language → ℕ → Option Ident → Parser Concurrent
assert_with language n label = assertion <$> assert language n label

abbrev pub instance_with : Language → ℕ → Ident → Parser Concurrent
instance_with language n label = instance label <$> instance_reader.instance language n

-- whether a component's name comes next, and no target
abbrev pub sees_component : List Lexeme → Bool
sees_component ts =
    sees_both k.Identifier k.Generic ts || (sees_both k.Identifier k.Port ts || sees_both k.Identifier k.Semicolon ts)

unfoldable pub named_with : Language → ℕ → Ident → Parser Concurrent
named_with language n label =
    λ ts. if sees_component ts then instance_with language n label ts else assign_with language n (Some label) ts

-- whether `begin` stands there, the statements behind it, and the label at the end
pub record GenerateBody : Type 0 where
  pub begin_word : Bool
  pub statements : List Concurrent
  pub end_label : Option Ident

abbrev pub generate_body_view : Bool × Vec code_concurrent.Concurrent Global × Option code_identifier.Identifier
    → GenerateBody
generate_body_view b = record { begin_word = b.0; statements = concurrents_view b.1; end_label = option_ident_view b.2 }

-- What follows the scheme of a generate statement. The parameter reads the statements in it.
module _ (below : Parser (List Concurrent)) where
  unfoldable pub generate_body : Parser GenerateBody
  generate_body = do
    expect k.Generate
    word ← eat k.Begin
    found ← below
    last ← end_of k.Generate
    pure (record { begin_word = word; statements = found; end_label = last })

  unfoldable pub generate_rest : Ident → ℕ → Scheme → Parser Concurrent
  generate_rest label at scheme =
      (λ b. generated label at scheme b.begin_word (concurrents_of b.statements) b.end_label) <$> generate_body

unfoldable pub for_scheme : Language → ℕ → Parser Scheme
for_scheme language m = do
  parameter ← identifier
  expect k.In
  r ← discrete_range language m
  pure (for_each parameter r)

-- Where so many levels may be opened. The third parameter reads statements one level down.
module _ (language : Language) (n : ℕ) (below : Parser (List Concurrent)) where
  unfoldable pub for_generate : Ident → Parser Concurrent
  for_generate label = opened k.For (λ m at. for_scheme language m >>= generate_rest below label at) n

  unfoldable pub if_generate : Ident → Parser Concurrent
  if_generate label =
      opened k.If (λ m at. expr language m >>= (λ condition. generate_rest below label at (if_holds condition))) n

-- ---- what reads a process, by the language

abbrev pub process_with : Language → ℕ → Option Ident → Parser Concurrent
process_with language n label = process label <$> process_reader.process language n

abbrev pub unlabelled_by : Language → ℕ → Option TokenKind → Parser Concurrent
unlabelled_by language n (Some k.With) = select_with language n None
unlabelled_by language n (Some k.Process) = process_with language n None
unlabelled_by language n (Some k.Identifier) = assign_with language n None
unlabelled_by language n (Some k.Assert) = assert_with language n None
unlabelled_by language n _ = refuse

unfoldable pub unlabelled : Language → ℕ → Parser Concurrent
unlabelled language n = choose (unlabelled_by language n)

-- Where so many levels may be opened. The third parameter reads statements one level down.
module _ (language : Language) (n : ℕ) (below : Parser (List Concurrent)) where
  abbrev pub labelled_by : Ident → Option TokenKind → Parser Concurrent
  labelled_by label (Some k.With) = select_with language n (Some label)
  labelled_by label (Some k.Process) = process_with language n (Some label)
  labelled_by label (Some k.Entity) = instance_with language n label
  labelled_by label (Some k.Component) = instance_with language n label
  labelled_by label (Some k.For) = for_generate language n below label
  labelled_by label (Some k.If) = if_generate language n below label
  labelled_by label (Some k.Identifier) = named_with language n label
  labelled_by label (Some k.Assert) = assert_with language n (Some label)
  labelled_by label _ = refuse

  unfoldable pub labelled : Ident → Parser Concurrent
  labelled label = choose (labelled_by label)

  abbrev pub by_label : Option Ident → Parser Concurrent
  by_label None = unlabelled language n
  by_label (Some label) = labelled label

  unfoldable pub concurrent : Parser Concurrent
  concurrent = optional_label >>= by_label

  unfoldable pub concurrents_with : Parser (List Concurrent)
  concurrents_with = many (begins_concurrent language) concurrent []

-- the statements one level down, where so many levels may be opened
unfoldable pub deeper_concurrents : Language → ℕ → Parser (List Concurrent)
deeper_concurrents language zero = too_deep
deeper_concurrents language (suc m) = concurrents_with language m (deeper_concurrents language m)

-- concurrent statements, in which so many levels may be opened
abbrev pub concurrents : Language → ℕ → Parser (List Concurrent)
concurrents language n = concurrents_with language n (deeper_concurrents language n)
