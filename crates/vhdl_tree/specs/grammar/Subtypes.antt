-- Subtypes, defaults, and what declares subtypes, constants and enumerations (IEEE 1076-2008, 6.2, 6.3, 6.4.2): how
-- they are spelled, and which are well formed.
use Rattle.std.specs.Prelude.{List, [], ◌∷◌, ◌++◌}
use Rattle.vhdl_lexer.specs.declared.language.Language.{Language}
use Rattle.vhdl_lexer.specs.declared.token.TokenKind.TheVariants as k
use Rattle.vhdl_tree.specs.Tree.{Value, Constraint, index_range, value_range, Subtype, SubtypeDeclaration, Constants, Enumeration}
use Rattle.vhdl_tree.specs.Pieces.{Piece, some, spell_ident, spell_idents, spell_option, IsAny, IsList, IsOption}
use Rattle.vhdl_tree.specs.grammar.Expressions.{spell_value, spell_discrete_range, IsDiscreteRangeIn, IsValueIn}
use Rattle.vhdl_tree.specs.grammar.Wide.{IsWide}

-- ( range ) | range range, in which the first `range` is the reserved word
abbrev pub spell_constraint : Constraint → List Piece
spell_constraint (index_range r) = some k.LeftParen ∷ (spell_discrete_range r ++ some k.RightParen ∷ [])
spell_constraint (value_range r) = some k.Range ∷ spell_discrete_range r

-- subtype = id [ ( range ) | range range ]
abbrev pub spell_subtype : Subtype → List Piece
spell_subtype t = spell_ident t.mark ++ spell_option spell_constraint t.constraint

-- := value
abbrev pub spell_default : Value → List Piece
spell_default v = some k.Assign ∷ spell_value v

-- subtype id is subtype ;
abbrev pub spell_subtype_declaration : SubtypeDeclaration → List Piece
spell_subtype_declaration d =
    some k.Subtype ∷ (spell_ident d.name ++ (some k.Is ∷ (spell_subtype d.subtype ++ some k.Semicolon ∷ [])))

-- constant ids : subtype := value ;
abbrev pub spell_constants : Constants → List Piece
spell_constants d =
    some k.Constant ∷ (spell_idents d.names ++ (some k.Colon ∷ (spell_subtype d.subtype ++ (some k.Assign ∷
    (spell_value d.value ++ some k.Semicolon ∷ [])))))

-- type id is ( ids ) ;
abbrev pub spell_enumeration : Enumeration → List Piece
spell_enumeration d =
    some k.Type ∷ (spell_ident d.name
    ++ (some k.Is ∷ (some k.LeftParen ∷ (spell_idents d.literals ++ (some k.RightParen ∷ (some k.Semicolon ∷ []))))))

abbrev pub IsEnumeration : Enumeration → Type 0
IsEnumeration d = IsList IsAny d.literals

module _ (language : Language) where
  abbrev pub IsConstraintIn : Constraint → Type 0
  IsConstraintIn (index_range r) = IsDiscreteRangeIn language r
  IsConstraintIn (value_range r) = IsWide language × IsDiscreteRangeIn language r

  abbrev pub IsSubtypeIn : Subtype → Type 0
  IsSubtypeIn t = IsOption IsConstraintIn t.constraint

  abbrev pub IsSubtypeDeclarationIn : SubtypeDeclaration → Type 0
  IsSubtypeDeclarationIn d = IsWide language × IsSubtypeIn d.subtype

  abbrev pub IsConstantsIn : Constants → Type 0
  IsConstantsIn d = IsList IsAny d.names × IsSubtypeIn d.subtype × IsValueIn language d.value
