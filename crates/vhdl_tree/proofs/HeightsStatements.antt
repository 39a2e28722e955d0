-- How high statements are, where so many levels may be opened.
use Rattle.std.proofs.Common.{ℕ, suc, Bool, true, false, List, [], ◌∷◌, map, Option, refl, arith}
use Rattle.std.specs.Prelude.{max, option_map}
use Rattle.vhdl_lexer.specs.declared.language.Language.TheVariants.{Wide}
use Rattle.vhdl_lexer.specs.declared.token.TokenKind.{TokenKind}
use Rattle.vhdl_lexer.specs.declared.token.TokenKind.TheVariants as k
use Rattle.vhdl_tree.specs.declared.sequential.Sequential.{Sequential}
use Rattle.vhdl_tree.specs.declared.sequential.Statement.{Statement}
use Rattle.vhdl_tree.specs.declared.sequential.Statement.TheVariants as st
use Rattle.vhdl_tree.specs.declared.sequential.Statement.TheBlock.{Held-If-otherwise, None', Some', Row_of-Sequential, end_of-Sequential, more_of-Sequential, Row_of-Conditional, end_of-Conditional, more_of-Conditional, Row_of-Alternative, end_of-Alternative, more_of-Alternative}
use Rattle.vhdl_tree.specs.declared.sequential.If.{If, If'}
use Rattle.vhdl_tree.specs.declared.sequential.Case.{Case, Case'}
use Rattle.vhdl_tree.specs.declared.sequential.For.{For, For'}
use Rattle.vhdl_tree.specs.declared.sequential.Conditional.{Conditional, Conditional'}
use Rattle.vhdl_tree.specs.declared.sequential.Alternative.{Alternative, Alternative'}
use Rattle.vhdl_tree.specs.Lexeme.{same_kind}
use Rattle.vhdl_tree.specs.Tree as t
use Rattle.vhdl_tree.specs.View.{ident_view, statement_view, if_view, case_view, for_view, statements_row, conditionals_row, condition_row, alternatives_row, alternative_row, otherwise_row, sequential_view}
use Rattle.vhdl_tree.specs.Height.{highest, statement_height, if_height, case_height, for_height, statements_height, conditionals_height, conditional_height, alternatives_height, alternative_height, otherwise_height, sequential_height}
use Rattle.vhdl_tree.specs.Pieces.{some, one_at, word_at, spell_option}
use Rattle.vhdl_tree.specs.grammar.Sequential.{assign_kind, spell_label, spell_end, spell_statement, spell_statements, spell_conditionals, spell_elsifs, spell_else, spell_alternatives, IsStatementIn, AreStatementsIn, AreBranchesIn, AreElsifsIn, IsElseIn, AreCasesIn, AreAlternativesIn}
use Rattle.vhdl_tree.proofs.Room.{Bounds, Closes, Moves, IsPlain, b_none, b_less, b_raise, b_then, b_piece, b_close, b_level, b_last, b_semicolon, b_option_flat}
use Rattle.vhdl_tree.proofs.HeightsExpressions.{expr_height, name_is, discrete_range_is, value_is, choices_are, conditional_are}
use Rattle.vhdl_tree.proofs.HeightsTexts.{text_is}

pub b_label : {c : ℕ} (i : t.Ident) → Bounds c 0 (spell_label i)
unfolding same_kind
b_label i = b_piece (word_at i.at i.text) (refl, refl, refl) (b_piece (some k.Colon) (refl, refl, refl) b_none)

-- [ id : ]
pub b_optional_label : {c : ℕ} (o : Option t.Ident) → Bounds c 0 (spell_option spell_label o)
b_optional_label o = b_option_flat spell_label (λ i. b_label i) o

pub b_end_of : {c : ℕ} (word : TokenKind) → Moves true 0 1 false word → (label : Option t.Ident) → Closes c 0 (spell_end word label)
b_end_of word is label = b_close (some word) is (b_last label)

arms : (more : t.Alternatives) → AreCasesIn Wide more → AreAlternativesIn Wide more
arms t.no_alternatives good = absurd good
arms (t.alternative choices body more) good = good

assign_plain : (is_variable : Bool) → IsPlain (assign_kind is_variable)
unfolding same_kind
assign_plain false = (refl, refl, refl)
assign_plain true = (refl, refl, refl)

mutual
  unfolding same_kind

  pub statement_is : (s : Statement) → IsStatementIn Wide (statement_view s) → Bounds 9 (statement_height s) (spell_statement (statement_view s))
  statement_is (st.Null at) good = b_less {c = 0} (omega arith) (b_piece (one_at k.Null at) (refl, refl, refl) b_semicolon)
  statement_is (st.SignalAssignment target value) good =
      b_less {c = 8} (omega arith) (b_then (name_is target good.0) (b_piece (some k.LessEqual) (refl, refl, refl) (b_then (value_is value good.1) b_semicolon)))
  statement_is (st.VariableAssignment target value) good =
      b_less {c = 8} (omega arith) (b_then (name_is target good.0) (b_piece (some k.Assign) (refl, refl, refl) (b_then (value_is value good.1) b_semicolon)))
  statement_is (st.ConditionalAssignment is_variable target branches otherwise) good =
      b_less {c = 8} (omega arith) (b_then (name_is target good.1) (b_piece (some (assign_kind is_variable)) (assign_plain is_variable)
      (b_then (conditional_are branches.items otherwise good.2) b_semicolon)))
  statement_is (st.If i) good = if_is i good
  statement_is (st.Case c) good = case_is c good
  statement_is (st.For f) good = for_is f good
  statement_is (st.Assert text) good = text_is k.Assert (refl, refl, refl) text.items good.1
  statement_is (st.Report text) good = text_is k.Report (refl, refl, refl) text.items good.1

  if_is : (i : If) → IsStatementIn Wide (if_view i) → Bounds 9 (suc (if_height i)) (spell_statement (if_view i))
  if_is (If' at shape branches otherwise label) good = b_less {c = 9} (omega arith)
      (b_level (one_at k.If at) (refl, refl, refl)
      (b_then (branches_are branches good.0) (b_then (otherwise_is otherwise good.1) (b_end_of k.If (refl, refl, refl) (option_map ident_view label)))))

  case_is : (c : Case) → IsStatementIn Wide (case_view c) → Bounds 9 (suc (case_height c)) (spell_statement (case_view c))
  case_is (Case' at selector shape alternatives label) good = b_less {c = 9} (omega arith)
      (b_level (one_at k.Case at) (refl, refl, refl)
      (b_then (b_raise 9 (omega arith) (expr_height selector good.0)) (b_piece (some k.Is) (refl, refl, refl)
      (b_then (alternatives_are alternatives (arms (alternatives_row alternatives) good.1)) (b_end_of k.Case (refl, refl, refl) (option_map ident_view label))))))

  for_is : (f : For) → IsStatementIn Wide (for_view f) → Bounds 9 (suc (for_height f)) (spell_statement (for_view f))
  for_is (For' at parameter range shape statements label) good = b_less {c = 9} (omega arith)
      (b_level (one_at k.For at) (refl, refl, refl)
      (b_piece (word_at parameter.at parameter.text.items) (refl, refl, refl) (b_piece (some k.In) (refl, refl, refl)
      (b_then (b_raise 9 (omega arith) (discrete_range_is range good.0)) (b_piece (some k.Loop) (refl, refl, refl)
      (b_then (statements_are statements good.1) (b_end_of k.Loop (refl, refl, refl) (option_map ident_view label))))))))

  statements_are : {m : _} (row : Row_of-Sequential m) → AreStatementsIn Wide (statements_row row) → Bounds 9 (statements_height row) (spell_statements (statements_row row))
  statements_are end_of-Sequential good = b_none
  statements_are (more_of-Sequential label s rest) good =
      b_less {c = 9} (omega arith) (b_then (b_then (b_optional_label (option_map ident_view label)) (statement_is s good.0)) (statements_are rest good.1))

  branches_are : {m : _} (row : Row_of-Conditional m) → AreBranchesIn Wide (conditionals_row row) → Bounds 9 (conditionals_height row) (spell_conditionals (conditionals_row row))
  branches_are end_of-Conditional good = absurd good
  branches_are (more_of-Conditional c rest) good = branch_is c (conditionals_row rest) (conditionals_height rest) (λ more. elsifs_are rest more) good

  branch_is : (c : Conditional) (rest : t.Conditionals) (high : ℕ) → (AreElsifsIn Wide rest → Bounds 9 high (spell_elsifs rest)) → AreBranchesIn Wide (condition_row c rest) →
      Bounds 9 (max (conditional_height c) high) (spell_conditionals (condition_row c rest))
  branch_is (Conditional' condition shape statements) rest high then good =
      b_then (b_then (b_raise 9 (omega arith) (expr_height condition good.0)) (b_piece (some k.Then) (refl, refl, refl) (statements_are statements good.1))) (then good.2)

  elsifs_are : {m : _} (row : Row_of-Conditional m) → AreElsifsIn Wide (conditionals_row row) → Bounds 9 (conditionals_height row) (spell_elsifs (conditionals_row row))
  elsifs_are end_of-Conditional good = b_none
  elsifs_are (more_of-Conditional c rest) good = elsif_is c (conditionals_row rest) (conditionals_height rest) (λ more. elsifs_are rest more) good

  elsif_is : (c : Conditional) (rest : t.Conditionals) (high : ℕ) → (AreElsifsIn Wide rest → Bounds 9 high (spell_elsifs rest)) → AreElsifsIn Wide (condition_row c rest) →
      Bounds 9 (max (conditional_height c) high) (spell_elsifs (condition_row c rest))
  elsif_is (Conditional' condition shape statements) rest high then good =
      b_then (b_piece (some k.Elsif) (refl, refl, refl) (b_then (b_raise 9 (omega arith) (expr_height condition good.0)) (b_piece (some k.Then) (refl, refl, refl) (statements_are statements good.1)))) (then good.2)

  otherwise_is : (o : Held-If-otherwise) → IsElseIn Wide (otherwise_row o) → Bounds 9 (otherwise_height o) (spell_else (otherwise_row o))
  otherwise_is None' good = b_none
  otherwise_is (Some' shape row) good = b_piece (some k.Else) (refl, refl, refl) (statements_are row good)

  alternatives_are : {m : _} (row : Row_of-Alternative m) → AreAlternativesIn Wide (alternatives_row row) → Bounds 9 (alternatives_height row) (spell_alternatives (alternatives_row row))
  alternatives_are end_of-Alternative good = b_none
  alternatives_are (more_of-Alternative a rest) good = alternative_is a (alternatives_row rest) (alternatives_height rest) (λ more. alternatives_are rest more) good

  alternative_is : (a : Alternative) (rest : t.Alternatives) (high : ℕ) → (AreAlternativesIn Wide rest → Bounds 9 high (spell_alternatives rest)) → AreAlternativesIn Wide (alternative_row a rest) →
      Bounds 9 (max (alternative_height a) high) (spell_alternatives (alternative_row a rest))
  alternative_is (Alternative' choices shape statements) rest high then good =
      b_then (b_piece (some k.When) (refl, refl, refl) (b_then (b_raise 9 (omega arith) (choices_are choices good.0)) (b_piece (some k.Arrow) (refl, refl, refl) (statements_are statements good.1)))) (then good.2)

pub body_is : (ss : List Sequential) → AreStatementsIn Wide (t.statements_of (map sequential_view ss)) →
    Bounds 9 (highest sequential_height ss) (spell_statements (t.statements_of (map sequential_view ss)))
body_is [] good = b_none
body_is (s ∷ ss) good = b_less {c = 9} (omega arith) (b_then (b_then (b_optional_label (option_map ident_view s.label)) (statement_is s.statement good.0)) (body_is ss good.1))
