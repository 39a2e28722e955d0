-- What is told of the faults of grammar behind one, by what is found.
use Rattle.std.proofs.Common.{◌≡◌, inl, inr, ℕ, zero, suc, ◌-◌, ◌<◌, ◌==◌, true, false, List, ◌++◌, append_assoc, Option, Some, None, Result, Ok, Err, is_ok, refl, sym, ap, ◌∙◌, subst, true≢false}
use Rattle.rtlsim_refusals.specs.Explained.{Told}
use Rattle.rtlsim_command_faults.specs.Further.{before}
use Rattle.rtlsim_command_faults.specs.Grammar.{Appends, GrammarBehind, GrammarFrom, IsExpectedOf, grammar_told}
use Rattle.rtlsim_command_faults.specs.Next.{Adds}
use Rattle.rtlsim_command_faults.specs.declared.search.End.{End}
use Rattle.rtlsim_command_faults.specs.declared.search.End.TheVariants as end
use Rattle.vhdl_source_files.specs.Files.{FileView}
use Rattle.std.specs.Prelude.{if◌then◌else◌}
use Rattle.vhdl_parser_rules.specs.Expected.{Expected}
use Rattle.vhdl_lexer.specs.declared.token.Token.{Token}
use Rattle.vhdl_parser_rules.specs.declared.fault.SyntaxFault.{SyntaxFault}
use Rattle.vhdl_front_rules.specs.Asking.{Asked}
use Rattle.vhdl_parser_further.specs.Left.{left}
use Rattle.vhdl_parser_further.specs.Refusals.{HasNoFurther, Refuses}
use Rattle.rtlsim_command_faults.proofs.Behind.{adds_none, less, suc_some}

module _ (files : List FileView) (asked : Asked) (tokens : List Token) (at : ℕ) (told : List Told) where
  pub grammar_nothing : (more : ℕ) → HasNoFurther asked.language asked.source (left tokens at) at → Adds (GrammarFrom files asked more tokens at) told told end.Whole
  grammar_nothing zero none = adds_none (GrammarFrom files asked zero tokens at) told end.Whole (inr (inl (none, refl)))
  grammar_nothing (suc more) none = adds_none (GrammarFrom files asked (suc more) tokens at) told end.Whole (inr (inl (none, refl)))

  -- memory is refused
  pub grammar_untold : (more : ℕ) → Adds (GrammarFrom files asked more tokens at) told told end.NoMemory
  grammar_untold zero = adds_none (GrammarFrom files asked zero tokens at) told end.NoMemory (inl refl)
  grammar_untold (suc more) = adds_none (GrammarFrom files asked (suc more) tokens at) told end.NoMemory (inl refl)

  -- no more are told
  pub grammar_full : (more : ℕ) (fault : SyntaxFault) (byte : ℕ) → Refuses asked.language asked.source (left tokens at) fault byte → at < byte → (more == 0) ≡ true
      → Adds (GrammarFrom files asked more tokens at) told told end.More
  grammar_full zero fault byte refuses further none =
      adds_none (GrammarFrom files asked zero tokens at) told end.More (inr (inr (fault, byte, refuses, further, refl)))
  grammar_full (suc more) fault byte refuses further none = absurd (true≢false (sym none ∙ suc_some more))

module _ (files : List FileView) (asked : Asked) (tokens next : List Token) (at byte : ℕ) (fault : SyntaxFault) where
  -- one is told, and then the others
  pub grammar_one : (more : ℕ) (old between new : List Told) (e : End) → (more == 0) ≡ false → next ≡ left tokens at
      → Refuses asked.language asked.source (left tokens at) fault byte → at < byte → Appends files asked next fault true old between
      → Adds (GrammarFrom files asked (more - 1) next byte) between new e → Adds (GrammarFrom files asked more tokens at) old new e
  grammar_one zero old between new e some same refuses further one_more adds = absurd (true≢false some)
  grammar_one (suc more) old between new e some same refuses further one_more adds =
      let expected = one_more.0 in
      let one = grammar_told files asked (left tokens at) expected fault in
      let others : GrammarFrom files asked more (left tokens at) byte adds.found =
      subst (λ (ts : List Token). GrammarFrom files asked more ts byte adds.found) same
      (subst (λ (n : ℕ). GrammarFrom files asked n next byte adds.found) (less more) adds.is) in
      record {
        found = before one adds.found;
        is = inr (inr (
          fault,
          byte,
          refuses,
          further,
          (expected, adds.found, subst (λ (ts : List Token). IsExpectedOf asked ts fault expected) same one_more.1, refl, others),
        ));
        grown = adds.grown
            ∙ ap (λ (ts : List Told). ts ++ adds.found.told) (one_more.2 ∙ ap (λ (ts : List Token). old ++ grammar_told files asked ts expected fault) same)
            ∙ append_assoc old one adds.found.told;
        ends = adds.ends;
      }

-- what is pushed where memory suffices
pub appends : {T E : Type 0} (r : Result T E) (files : List FileView) (asked : Asked) (tokens : List Token) (fault : SyntaxFault) (expected : Expected) (old new : List Told)
    → IsExpectedOf asked tokens fault expected → new ≡ (if is_ok r then old ++ grammar_told files asked tokens expected fault else old)
    → Appends files asked tokens fault (is_ok r) old new
appends (Ok x) files asked tokens fault expected old new expects is = (expected, expects, is)
appends (Err e) files asked tokens fault expected old new expects is = is

-- ---- behind the first fault of a source

module _ (files : List FileView) (asked : Asked) (at : Option ℕ) where
  -- memory for the tokens is refused
  pub grammar_uncut : (byte : ℕ) (told : List Told) → at ≡ Some byte → Adds (GrammarBehind files asked at) told told end.NoMemory
  grammar_uncut byte told is = rw is (adds_none (GrammarBehind files asked (Some byte)) told end.NoMemory (inr refl))

-- it is told nowhere
pub grammar_none : (files : List FileView) (asked : Asked) (at : Option ℕ) (told : List Told) → ((byte : ℕ) → at ≡ Some byte → ⊥)
    → Adds (GrammarBehind files asked at) told told end.Whole
grammar_none files asked None told nowhere = adds_none (GrammarBehind files asked None) told end.Whole refl
grammar_none files asked (Some byte) told nowhere = absurd (nowhere byte refl)
