-- How the parser reads what assignments assign.
use Rattle.std.specs.Prelude.{ℕ, zero, suc, List, [], ◌∷◌, ◌++◌, length, Vec, Option, Some, None}
use Rattle.std.specs.Global.{Global}
use Rattle.vhdl_lexer.specs.declared.language.Language.{Language}
use Rattle.vhdl_lexer.specs.declared.token.TokenKind.TheVariants as k
use Rattle.vhdl_tree.specs.declared.sequential.Branch as code
use Rattle.vhdl_tree.specs.declared.expression.Value as code_value
use Rattle.vhdl_tree.specs.declared.expression.Expr as code_expr
use Rattle.vhdl_tree.specs.Tree.{Expr, Value, Branch, Waveform, SelectedAssignment}
use Rattle.vhdl_tree.specs.View.{value_view, option_expr_view, branches_view, option_value_view}
use Rattle.vhdl_parser_expressions.specs.reader.Input.{Parser, ◌>>=◌, ◌>>◌, pure, is_kind, test, expect, optional, separated}
use Rattle.vhdl_parser_expressions.specs.reader.Expressions.{expr, inner, name}
use Rattle.vhdl_parser_expressions.specs.reader.Values.{value, choices}

-- the branches of an assignment, and what it assigns where none of them holds
pub record Waveforms : Type 0 where
  pub branches : List Branch
  pub otherwise : Option Value

-- when expr
unfoldable pub condition : Language → ℕ → Parser Expr
condition language n = expect k.When >> expr language n

-- a value and the condition behind it, if there is one
pub record Part : Type 0 where
  pub value : Value
  pub condition : Option Expr

unfoldable pub part : Language → ℕ → Parser Part
part language n = do
  v ← value language n
  c ← optional (is_kind k.When) (condition language n)
  pure (record { value = v; condition = c })

unfoldable pub else_part : Language → ℕ → Parser Part
else_part language n = expect k.Else >> part language n

-- a part without a condition is the last one
abbrev pub go_on : (List Branch → Parser Waveforms) → List Branch → Value → Option Expr → Parser Waveforms
go_on go found v None = pure (record { branches = found; otherwise = Some v })
go_on go found v (Some c) = go (found ++ record { value = v; condition = c } ∷ [])

-- { else value when expr } [ else value ], after the branches found. The number bounds the turns, and each turn takes
-- a token.
unfoldable pub more_branches_from : Language → (n turns : ℕ) → List Branch → Parser Waveforms
more_branches_from language n zero found = pure (record { branches = found; otherwise = None })
more_branches_from language n (suc turns) found =
    test (is_kind k.Else)
    (do p ← else_part language n; go_on (more_branches_from language n turns) found p.value p.condition)
    (pure (record { branches = found; otherwise = None }))

unfoldable pub more_branches : Language → ℕ → List Branch → Parser Waveforms
more_branches language n found = λ ts. more_branches_from language n (length ts) found ts

-- value [ when expr { else value when expr } [ else value ] ]
unfoldable pub conditional_waveforms : Language → ℕ → Parser Waveforms
conditional_waveforms language n = do
  p ← part language n
  go_on (more_branches language n) [] p.value p.condition

-- what contracts see of branches and a last value
abbrev pub conditional_view : Vec code.Branch Global × Option code_value.Value → Waveforms
conditional_view w = record { branches = branches_view w.0; otherwise = option_value_view w.1 }

-- what contracts see of a value and a condition
abbrev pub part_view : code_value.Value × Option code_expr.Expr → Part
part_view p = record { value = value_view p.0; condition = option_expr_view p.1 }

-- ---- selected waveforms

unfoldable pub waveform : Language → ℕ → Parser Waveform
waveform language n = do
  v ← value language n
  expect k.When
  cs ← choices language n
  pure (record { value = v; choices = cs })

abbrev pub waveforms : Language → ℕ → Parser (List Waveform)
waveforms language n = separated k.Comma (waveform language n)

unfoldable pub selected : Language → ℕ → Parser SelectedAssignment
selected language n = do
  at ← expect k.With
  selector ← expr language n
  expect k.Select
  target ← name (inner language n)
  expect k.LessEqual
  all ← waveforms language n
  expect k.Semicolon
  pure (record { at = at; selector = selector; target = target; waveforms = all })
