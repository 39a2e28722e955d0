-- The plainest statements, and that each takes a token at least.
use Rattle.std.proofs.Common.{ℕ, ◌≤◌, [], ◌∷◌, ◌++◌, length, length-append, None, refl, arith}
use Rattle.vhdl_lexer.specs.declared.language.Language.{Language}
use Rattle.vhdl_lexer.specs.declared.token.TokenKind.TheVariants as k
use Rattle.vhdl_tree.specs.declared.operator.Direction.TheVariants.{To}
use Rattle.vhdl_tree.specs.Tree.{Ident, Name, Range, DiscreteRange, bounds, single, otherwise, Statement, null_of, assigned, if_of, case_of, for_of, done, no_conditionals, guarded, no_else, no_alternatives, alternative, Sequential}
use Rattle.vhdl_tree.specs.Pieces.{Piece, some, one_at, word_at, text_at, spell_option}
use Rattle.vhdl_tree.specs.grammar.Expressions.{spell_name, IsNameIn}
use Rattle.vhdl_tree.specs.grammar.Sequential.{spell_label, spell_end, spell_statement, spell_sequential, IsStatementIn}
use Rattle.vhdl_parser_expressions.proofs.Halts.{Example}
use Rattle.vhdl_parser_expressions.proofs.WalkExpressions.{number}

abbrev pub an_ident : Ident
an_ident = record { at = 0; text = [] }

abbrev pub a_range : Range
a_range = record { left = number; direction = To; right = number }

abbrev pub some_bounds : DiscreteRange
some_bounds = bounds a_range

abbrev pub a_number : Piece
a_number = text_at k.Integer 0 []

module _ (language : Language) where
  -- null ;
  pub plain_statement : Example (λ ps. ps) spell_statement (IsStatementIn language)
  plain_statement = record { tree = null_of 0; more = one_at k.Null 0 ∷ (some k.Semicolon ∷ []); is = refl; formed = tt }

  -- .. <= 0 ;
  pub plain_assigned : (t : Name) → IsNameIn language t → Example (λ r. spell_name t ++ r) spell_statement (IsStatementIn language)
  plain_assigned t good = record { tree = assigned t (single number); more = some k.LessEqual ∷ (a_number ∷ (some k.Semicolon ∷ [])); is = refl; formed = (good, (tt, tt)) }

  -- if 0 then end if ;
  pub plain_if : (at : ℕ) → Example (λ r. one_at k.If at ∷ r) spell_statement (IsStatementIn language)
  plain_if at = record {
    tree = if_of at (guarded number done no_conditionals) no_else None;
    more = a_number ∷ (some k.Then ∷ spell_end k.If None);
    is = refl;
    formed = ((tt, tt, tt), tt);
  }

  -- case 0 is when others => end case ;
  pub plain_case : (at : ℕ) → Example (λ r. one_at k.Case at ∷ r) spell_statement (IsStatementIn language)
  plain_case at = record {
    tree = case_of at number (alternative (otherwise 0 ∷ []) done no_alternatives) None;
    more = a_number ∷ (some k.Is ∷ (some k.When ∷ (one_at k.Others 0 ∷ (some k.Arrow ∷ spell_end k.Case None))));
    is = refl;
    formed = (tt, ((tt, tt), tt, tt));
  }

  -- for id in 0 to 0 loop end loop ;
  pub plain_for : (at : ℕ) → Example (λ r. one_at k.For at ∷ r) spell_statement (IsStatementIn language)
  plain_for at = record {
    tree = for_of at an_ident some_bounds done None;
    more = word_at 0 [] ∷ (some k.In ∷ (a_number ∷ (some k.To ∷ (a_number ∷ (some k.Loop ∷ spell_end k.Loop None)))));
    is = refl;
    formed = ((tt, tt), tt);
  }

pub statement_long : (s : Statement) → 1 ≤ length (spell_statement s)
statement_long (null_of _) = omega arith
statement_long _ = omega arith

pub sequential_long : (s : Sequential) → 1 ≤ length (spell_sequential s)
sequential_long s = omega (arith, statement_long s.statement, length-append (spell_option spell_label s.label) (spell_statement s.statement))
