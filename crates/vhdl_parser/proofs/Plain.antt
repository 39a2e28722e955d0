-- The plainest concurrent statements, and that each takes a token at least.
use Rattle.std.proofs.Common.{ℕ, ◌≤◌, false, [], ◌∷◌, ◌++◌, length, length-append, Option, Some, None, refl, arith}
use Rattle.vhdl_lexer.specs.declared.language.Language.{Language}
use Rattle.vhdl_lexer.specs.declared.token.TokenKind.TheVariants as k
use Rattle.vhdl_tree.specs.Tree.{Ident, plain, single, Concurrent, for_each, if_holds, assignment, assertion, selected, process, generated, no_concurrents}
use Rattle.vhdl_tree.specs.Pieces.{some, one_at, word_at, spell_option}
use Rattle.vhdl_tree.specs.grammar.Expressions.{spell_name}
use Rattle.vhdl_tree.specs.grammar.Process.{spell_process, spell_selected}
use Rattle.vhdl_tree.specs.grammar.Sequential.{spell_label, spell_end}
use Rattle.vhdl_tree.specs.grammar.Concurrent.{spell_concurrent, IsConcurrentIn}
use Rattle.vhdl_tree.specs.grammar.Texts.{spell_text}
use Rattle.vhdl_tree.specs.grammar.Waveforms.{spell_waveforms}
use Rattle.vhdl_parser_expressions.proofs.Halts.{Example}
use Rattle.vhdl_parser_expressions.proofs.WalkExpressions.{number}
use Rattle.vhdl_parser_statements.proofs.Plain.{an_ident, some_bounds, a_number}

-- id <= 0 ;
pub plain_concurrent : (language : Language) (label : Option Ident) → Example (λ r. spell_option spell_label label ++ r) spell_concurrent (IsConcurrentIn language)
plain_concurrent language label = record {
  tree = assignment (record { label = label; target = record { identifier = an_ident; suffix = plain; attribute = None }; branches = []; otherwise = Some (single number) });
  more = word_at 0 [] ∷ (some k.LessEqual ∷ (a_number ∷ (some k.Semicolon ∷ [])));
  is = refl;
  formed = ((tt, tt), (tt, tt));
}

-- for id in 0 to 0 generate end generate ;
pub plain_for : (language : Language) (label : Ident) (at : ℕ) → Example (λ r. spell_label label ++ (one_at k.For at ∷ r)) spell_concurrent (IsConcurrentIn language)
plain_for language label at = record {
  tree = generated label at (for_each an_ident some_bounds) false no_concurrents None;
  more = word_at 0 [] ∷ (some k.In ∷ (a_number ∷ (some k.To ∷ (a_number ∷ (some k.Generate ∷ spell_end k.Generate None)))));
  is = refl;
  formed = ((tt, tt), tt);
}

-- if 0 generate end generate ;
pub plain_if : (language : Language) (label : Ident) (at : ℕ) → Example (λ r. spell_label label ++ (one_at k.If at ∷ r)) spell_concurrent (IsConcurrentIn language)
plain_if language label at = record { tree = generated label at (if_holds number) false no_concurrents None; more = a_number ∷ (some k.Generate ∷ spell_end k.Generate None); is = refl; formed = (tt, tt) }

pub concurrent_long : (c : Concurrent) → 1 ≤ length (spell_concurrent c)
concurrent_long (assignment a) = omega (arith, length-append (spell_option spell_label a.label) (spell_name a.target ++ (some k.LessEqual ∷ (spell_waveforms a.branches a.otherwise ++ some k.Semicolon ∷ []))))
concurrent_long (selected l s) = omega (arith, length-append (spell_option spell_label l) (spell_selected s))
concurrent_long (process l p) = omega (arith, length-append (spell_option spell_label l) (spell_process p))
concurrent_long (assertion a) = omega (arith, length-append (spell_option spell_label a.label) (spell_text k.Assert a.text))
concurrent_long _ = omega arith
