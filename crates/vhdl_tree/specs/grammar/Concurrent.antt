-- Concurrent statements (IEEE 1076-2008, 11): how they are spelled, and which are well formed.
use Rattle.std.specs.Prelude.{ℕ, List, [], ◌∷◌, ◌++◌}
use Rattle.vhdl_lexer.specs.declared.language.Language.{Language}
use Rattle.vhdl_lexer.specs.declared.token.TokenKind.TheVariants as k
use Rattle.vhdl_tree.specs.Tree.{Assignment, Scheme, for_each, if_holds, Assertion, Concurrent, assignment, selected, process, instance, generated, assertion, Concurrents, no_concurrents, concurrent}
use Rattle.vhdl_tree.specs.Pieces.{Piece, some, one_at, word_at, spell_option, spell_word}
use Rattle.vhdl_tree.specs.grammar.Expressions.{spell, spell_name, spell_discrete_range, IsExprIn, IsNameIn, IsDiscreteRangeIn}
use Rattle.vhdl_tree.specs.grammar.Waveforms.{spell_waveforms, AreWaveformsIn}
use Rattle.vhdl_tree.specs.grammar.Texts.{spell_text, IsTextIn}
use Rattle.vhdl_tree.specs.grammar.Sequential.{spell_label, spell_end}
use Rattle.vhdl_tree.specs.grammar.Process.{spell_process, spell_selected, IsProcessIn, IsSelectedIn}
use Rattle.vhdl_tree.specs.grammar.Instance.{spell_instance, IsInstanceIn}

-- [ id : ] name <= value [ when .. ] ;
abbrev pub spell_assignment : Assignment → List Piece
spell_assignment a =
    spell_option spell_label a.label
    ++ (spell_name a.target ++ (some k.LessEqual ∷ (spell_waveforms a.branches a.otherwise ++ some k.Semicolon ∷ [])))

-- for id in range | if expr
abbrev pub spell_scheme : ℕ → Scheme → List Piece
spell_scheme at (for_each parameter range) =
    one_at k.For at ∷ (word_at parameter.at parameter.text ∷ (some k.In ∷ spell_discrete_range range))
spell_scheme at (if_holds condition) = one_at k.If at ∷ spell condition

-- [ id : ] assert text ;
abbrev pub spell_assertion : Assertion → List Piece
spell_assertion a = spell_option spell_label a.label ++ spell_text k.Assert a.text

abbrev mutual
  -- conc = [ id : ] assign | [ id : ] select | [ id : ] process | id : instance | id : generate | [ id : ] assert ..
  pub spell_concurrent : Concurrent → List Piece
  spell_concurrent (assignment a) = spell_assignment a
  spell_concurrent (selected label s) = spell_option spell_label label ++ spell_selected s
  spell_concurrent (process label p) = spell_option spell_label label ++ spell_process p
  spell_concurrent (instance label i) = spell_label label ++ spell_instance i
  -- generate = ( for id in range | if expr ) generate [ begin ] { conc } end generate [ id ] ;
  spell_concurrent (generated label at scheme word statements last) =
      spell_label label ++ (spell_scheme at scheme ++ (some k.Generate ∷ (spell_word k.Begin word ++
      (spell_concurrents statements ++ spell_end k.Generate last))))
  spell_concurrent (assertion a) = spell_assertion a

  -- { conc }
  pub spell_concurrents : Concurrents → List Piece
  spell_concurrents no_concurrents = []
  spell_concurrents (concurrent c more) = spell_concurrent c ++ spell_concurrents more

module _ (language : Language) where
  abbrev pub IsAssignmentIn : Assignment → Type 0
  IsAssignmentIn a = IsNameIn language a.target × AreWaveformsIn language a.branches a.otherwise

  abbrev pub IsSchemeIn : Scheme → Type 0
  IsSchemeIn (for_each parameter range) = IsDiscreteRangeIn language range
  IsSchemeIn (if_holds condition) = IsExprIn language condition

  abbrev pub IsAssertionIn : Assertion → Type 0
  IsAssertionIn a = IsTextIn language a.text

  abbrev mutual
    pub IsConcurrentIn : Concurrent → Type 0
    IsConcurrentIn (assignment a) = IsAssignmentIn a
    IsConcurrentIn (selected label s) = IsSelectedIn language s
    IsConcurrentIn (process label p) = IsProcessIn language p
    IsConcurrentIn (instance label i) = IsInstanceIn language i
    IsConcurrentIn (generated label at scheme word statements last) = IsSchemeIn scheme × AreConcurrentsIn statements
    IsConcurrentIn (assertion a) = IsAssertionIn a

    pub AreConcurrentsIn : Concurrents → Type 0
    AreConcurrentsIn no_concurrents = Unit {0}
    AreConcurrentsIn (concurrent c more) = IsConcurrentIn c × AreConcurrentsIn more
