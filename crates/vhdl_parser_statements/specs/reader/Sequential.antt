-- How the parser reads sequential statements.
use Rattle.std.specs.Prelude.{ℕ, zero, suc, Bool, true, false, List, [], Option, Some, None}
use Rattle.vhdl_lexer.specs.declared.language.Language.{Language}
use Rattle.vhdl_lexer.specs.declared.language.Language.TheVariants.{Profile, Wide}
use Rattle.vhdl_lexer.specs.declared.token.TokenKind.{TokenKind}
use Rattle.vhdl_lexer.specs.declared.token.TokenKind.TheVariants as k
use Rattle.vhdl_tree.specs.Tree.{Ident, Name, Value, Branch, Statement, null_of, assigned, variable_assigned, assigned_when, if_of, case_of, for_of, asserted, reported, Sequential, Conditional, Alternative, statements_of, conditionals_of, alternatives_of, otherwise_of, guarded_by, chosen_by}
use Rattle.vhdl_tree.specs.grammar.Sequential.{assign_kind}
use Rattle.vhdl_parser_expressions.specs.reader.Input.{Parser, ◌>>=◌, ◌>>◌, ◌<<◌, ◌<$>◌, pure, refuse, too_deep, is_kind, choose, test_both, expect, identifier, optional, many, separated, opened}
use Rattle.vhdl_parser_expressions.specs.reader.Expressions.{expr, inner, name}
use Rattle.vhdl_parser_expressions.specs.reader.Values.{discrete_range, value, choices}
use Rattle.vhdl_parser_statements.specs.reader.Texts.{text_of}
use Rattle.vhdl_parser_statements.specs.reader.Waveforms.{Waveforms, conditional_waveforms}
use Rattle.vhdl_parser_statements.specs.reader.Wide.{is_wide}

unfoldable pub label : Parser Ident
label = identifier << k.Colon

unfoldable pub optional_label : Parser (Option Ident)
optional_label = test_both k.Identifier k.Colon (Some <$> label) (pure None)

unfoldable pub null_statement : Parser Statement
null_statement = do
  at ← expect k.Null
  expect k.Semicolon
  pure (null_of at)

-- name <= value, or name := value
abbrev pub plainly : Bool → Name → Value → Statement
plainly false = assigned
plainly true = variable_assigned

-- an assignment by its branches with conditions, and its last value
abbrev pub assignment_of : Bool → Name → List Branch → Option Value → Statement
assignment_of is_variable target [] (Some v) = plainly is_variable target v
assignment_of is_variable target branches otherwise = assigned_when is_variable target branches otherwise

-- a value, which in the wider language may have conditions
abbrev pub assigned_waveforms : Language → ℕ → Parser Waveforms
assigned_waveforms Profile n = (λ v. record { branches = []; otherwise = Some v }) <$> value Profile n
assigned_waveforms Wide n = conditional_waveforms Wide n

-- behind its target
unfoldable pub assign_behind : Language → ℕ → Bool → Name → Parser Statement
assign_behind language n is_variable target = do
  expect (assign_kind is_variable)
  w ← assigned_waveforms language n
  expect k.Semicolon
  pure (assignment_of is_variable target w.branches w.otherwise)

abbrev pub assign_by : Language → ℕ → Name → Option TokenKind → Parser Statement
assign_by language n target (Some k.LessEqual) = assign_behind language n false target
assign_by language n target (Some k.Assign) = assign_behind language n true target
assign_by language n target _ = refuse

unfoldable pub assign : Language → ℕ → Parser Statement
assign language n = do
  target ← name (inner language n)
  choose (assign_by language n target)

-- end word [ id ] ;
unfoldable pub end_of : TokenKind → Parser (Option Ident)
end_of word = do
  expect k.End
  expect word
  optional (is_kind k.Identifier) identifier << k.Semicolon

-- whether a statement begins, where statements stand
abbrev pub begins_sequential : Language → Option TokenKind → Bool
begins_sequential language (Some k.Identifier) = true
begins_sequential language (Some k.Null) = true
begins_sequential language (Some k.If) = true
begins_sequential language (Some k.Case) = true
begins_sequential language (Some k.For) = true
begins_sequential language (Some k.Assert) = is_wide language
begins_sequential language (Some k.Report) = is_wide language
begins_sequential language _ = false

-- what guards statements, the token behind it, and they
abbrev pub guarding : {A B : Type 0} → Parser (List Sequential)
    → Parser A → TokenKind → (A → List Sequential → B) → Parser B
guarding inner guard sign make = do
  x ← guard
  expect sign
  found ← inner
  pure (make x found)

-- One level down, where so many more may be opened. The third parameter reads the statements there.
module _ (language : Language) (m : ℕ) (below : Parser (List Sequential)) where
  unfoldable pub condition : Parser Conditional
  condition = guarding below (expr language m) k.Then guarded_by

  -- condition { elsif condition }
  abbrev pub branches : Parser (List Conditional)
  branches = separated k.Elsif condition

  unfoldable pub else_part : Parser (List Sequential)
  else_part = expect k.Else >> below

  unfoldable pub if_rest : ℕ → Parser Statement
  if_rest at = do
    found ← branches
    otherwise ← optional (is_kind k.Else) else_part
    last ← end_of k.If
    pure (if_of at (conditionals_of found) (otherwise_of otherwise) last)

  unfoldable pub alternative_part : Parser Alternative
  alternative_part = guarding below (choices language m) k.Arrow chosen_by

  -- alternative { when alternative }
  abbrev pub alternatives : Parser (List Alternative)
  alternatives = separated k.When alternative_part

  unfoldable pub case_rest : ℕ → Parser Statement
  case_rest at = do
    selector ← expr language m
    expect k.Is
    expect k.When
    all ← alternatives
    last ← end_of k.Case
    pure (case_of at selector (alternatives_of all) last)

  unfoldable pub for_rest : ℕ → Parser Statement
  for_rest at = do
    parameter ← identifier
    expect k.In
    r ← discrete_range language m
    expect k.Loop
    found ← below
    last ← end_of k.Loop
    pure (for_of at parameter r (statements_of found) last)

-- Where so many levels may be opened. The third parameter reads statements one level down.
module _ (language : Language) (n : ℕ) (deeper : Parser (List Sequential)) where
  unfoldable pub if_statement : Parser Statement
  if_statement = opened k.If (λ m. if_rest language m deeper) n

  unfoldable pub case_statement : Parser Statement
  case_statement = opened k.Case (λ m. case_rest language m deeper) n

  unfoldable pub for_statement : Parser Statement
  for_statement = opened k.For (λ m. for_rest language m deeper) n

  abbrev pub statement_by : Option TokenKind → Parser Statement
  statement_by (Some k.Identifier) = assign language n
  statement_by (Some k.Null) = null_statement
  statement_by (Some k.If) = if_statement
  statement_by (Some k.Case) = case_statement
  statement_by (Some k.For) = for_statement
  statement_by (Some k.Assert) = asserted <$> text_of language n k.Assert
  statement_by (Some k.Report) = reported <$> text_of language n k.Report
  statement_by _ = refuse

  unfoldable pub statement_of : Parser Statement
  statement_of = choose statement_by

  unfoldable pub sequential : Parser Sequential
  sequential = do
    l ← optional_label
    s ← statement_of
    pure (record { label = l; statement = s })

  unfoldable pub statements_with : Parser (List Sequential)
  statements_with = many (begins_sequential language) sequential []

-- the statements one level down, where so many levels may be opened
unfoldable pub deeper : Language → ℕ → Parser (List Sequential)
deeper language zero = too_deep
deeper language (suc m) = statements_with language m (deeper language m)

-- statements, in which so many levels may be opened
abbrev pub statements : Language → ℕ → Parser (List Sequential)
statements language n = statements_with language n (deeper language n)
