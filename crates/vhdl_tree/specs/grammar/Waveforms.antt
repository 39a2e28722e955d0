-- Values with conditions (IEEE 1076-2008, 10.5.3, 10.6.3, 11.6): how they are spelled, and which are well formed.
use Rattle.std.specs.Prelude.{Option, Some, None, List, [], ◌∷◌, ◌++◌}
use Rattle.vhdl_lexer.specs.declared.language.Language.{Language}
use Rattle.vhdl_lexer.specs.declared.token.TokenKind.TheVariants as k
use Rattle.vhdl_tree.specs.Tree.{Value, Branch}
use Rattle.vhdl_tree.specs.Pieces.{Piece, some, IsEach, IsOption}
use Rattle.vhdl_tree.specs.grammar.Expressions.{spell, spell_value, IsExprIn, IsValueIn}

-- value when expr
abbrev pub spell_branch : Branch → List Piece
spell_branch b = spell_value b.value ++ (some k.When ∷ spell b.condition)

-- { else value when expr } [ else value ]
abbrev pub spell_otherwise : List Branch → Option Value → List Piece
spell_otherwise [] None = []
spell_otherwise [] (Some v) = some k.Else ∷ spell_value v
spell_otherwise (b ∷ more) otherwise = some k.Else ∷ (spell_branch b ++ spell_otherwise more otherwise)

-- value [ when expr { else value when expr } [ else value ] ]
abbrev pub spell_waveforms : List Branch → Option Value → List Piece
spell_waveforms [] None = []
spell_waveforms [] (Some v) = spell_value v
spell_waveforms (b ∷ more) otherwise = spell_branch b ++ spell_otherwise more otherwise

module _ (language : Language) where
  abbrev pub IsBranchIn : Branch → Type 0
  IsBranchIn b = IsValueIn language b.value × IsExprIn language b.condition

  -- value when expr { else value when expr } [ else value ]
  abbrev pub AreConditionalIn : List Branch → Option Value → Type 0
  AreConditionalIn [] otherwise = ⊥
  AreConditionalIn (b ∷ more) otherwise =
      IsBranchIn b × IsEach IsBranchIn more × IsOption (IsValueIn language) otherwise

  -- there is a value
  abbrev pub AreWaveformsIn : List Branch → Option Value → Type 0
  AreWaveformsIn [] None = ⊥
  AreWaveformsIn [] (Some v) = IsValueIn language v
  AreWaveformsIn (b ∷ more) otherwise = AreConditionalIn (b ∷ more) otherwise
