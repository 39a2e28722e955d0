-- Generics, ports and declarations (IEEE 1076-2008, 6): how they are spelled, and which are well formed.
use Rattle.std.specs.Prelude.{List, [], ◌∷◌, ◌++◌}
use Rattle.vhdl_lexer.specs.declared.language.Language.{Language}
use Rattle.vhdl_lexer.specs.declared.token.TokenKind.TheVariants as k
use Rattle.vhdl_tree.specs.declared.declaration.Mode.{Mode}
use Rattle.vhdl_tree.specs.declared.declaration.Mode.TheVariants.{In, Out}
use Rattle.vhdl_tree.specs.Tree.{Expr, Subtype, Generic, Port, Signals, Component, Declaration, signals, constants, enumeration, component, subtype_of, attribute_of}
use Rattle.vhdl_tree.specs.Pieces.{Piece, some, spell_ident, spell_idents, spell_word, spell_option, spell_list, IsAny, IsList, IsOption}
use Rattle.vhdl_tree.specs.grammar.Expressions.{spell, IsExprIn, IsValueIn}
use Rattle.vhdl_tree.specs.grammar.Subtypes.{spell_subtype, spell_default, spell_constants, spell_enumeration, spell_subtype_declaration, IsConstraintIn, IsSubtypeIn, IsConstantsIn, IsEnumeration, IsSubtypeDeclarationIn}
use Rattle.vhdl_tree.specs.grammar.Texts.{spell_text, IsTextIn}
use Rattle.vhdl_tree.specs.grammar.Wide.{IsWide}

-- := expr
abbrev pub spell_generic_default : Expr → List Piece
spell_generic_default e = some k.Assign ∷ spell e

-- in | out
abbrev pub spell_mode : Mode → List Piece
spell_mode In = some k.In ∷ []
spell_mode Out = some k.Out ∷ []

-- gdecl = [ constant ] ids : [ in ] subtype [ := expr ]
abbrev pub spell_generic : Generic → List Piece
spell_generic g =
    spell_word k.Constant g.constant_word ++ (spell_idents g.names ++ (some k.Colon ∷ (spell_word k.In g.in_word ++
    (spell_subtype g.subtype ++ spell_option spell_generic_default g.default))))

-- generics = generic ( gdecl { ; gdecl } ) ;
abbrev pub spell_generics : List Generic → List Piece
spell_generics gs =
    some k.Generic
    ∷ (some k.LeftParen ∷ (spell_list k.Semicolon spell_generic gs ++ (some k.RightParen ∷ (some k.Semicolon ∷ []))))

-- pdecl = [ signal ] ids : [ in | out ] subtype [ := value ]
abbrev pub spell_port : Port → List Piece
spell_port p =
    spell_word k.Signal p.signal_word ++ (spell_idents p.names ++ (some k.Colon ∷ (spell_option spell_mode p.mode ++
    (spell_subtype p.subtype ++ spell_option spell_default p.default))))

-- ports = port ( pdecl { ; pdecl } ) ;
abbrev pub spell_ports : List Port → List Piece
spell_ports ps =
    some k.Port
    ∷ (some k.LeftParen ∷ (spell_list k.Semicolon spell_port ps ++ (some k.RightParen ∷ (some k.Semicolon ∷ []))))

-- signal ids : subtype [ := value ] ;
abbrev pub spell_signals : Signals → List Piece
spell_signals d =
    some k.Signal ∷ (spell_idents d.names
    ++ (some k.Colon ∷ (spell_subtype d.subtype ++ (spell_option spell_default d.default ++ some k.Semicolon ∷ []))))

-- component id [ is ] [ generics ] [ ports ] end component [ id ] ;
abbrev pub spell_component : Component → List Piece
spell_component c =
    some k.Component ∷ (spell_ident c.name ++ (spell_word k.Is c.is_word ++ (spell_option spell_generics c.generics ++
    (spell_option spell_ports c.ports ++ (some k.End ∷ (some k.Component ∷
    (spell_option spell_ident c.end_name ++ some k.Semicolon ∷ [])))))))

abbrev pub spell_declaration : Declaration → List Piece
spell_declaration (signals d) = spell_signals d
spell_declaration (constants d) = spell_constants d
spell_declaration (enumeration d) = spell_enumeration d
spell_declaration (component c) = spell_component c
spell_declaration (subtype_of d) = spell_subtype_declaration d
spell_declaration (attribute_of text) = spell_text k.Attribute text

-- a type's name alone, or in the wider language any subtype
abbrev pub IsGenericSubtypeIn : Language → Subtype → Type 0
IsGenericSubtypeIn language t = IsOption (λ c. IsWide language × IsConstraintIn language c) t.constraint

module _ (language : Language) where
  abbrev pub IsGenericIn : Generic → Type 0
  IsGenericIn g =
      IsList IsAny g.names × IsGenericSubtypeIn language g.subtype × IsOption (IsExprIn language) g.default

  abbrev pub AreGenericsIn : List Generic → Type 0
  AreGenericsIn = IsList IsGenericIn

  abbrev pub IsPortIn : Port → Type 0
  IsPortIn p = IsList IsAny p.names × IsSubtypeIn language p.subtype × IsOption (IsValueIn language) p.default

  abbrev pub ArePortsIn : List Port → Type 0
  ArePortsIn = IsList IsPortIn

  abbrev pub IsSignalsIn : Signals → Type 0
  IsSignalsIn d = IsList IsAny d.names × IsSubtypeIn language d.subtype × IsOption (IsValueIn language) d.default

  abbrev pub IsComponentIn : Component → Type 0
  IsComponentIn c = IsOption AreGenericsIn c.generics × IsOption ArePortsIn c.ports

  abbrev pub IsDeclarationIn : Declaration → Type 0
  IsDeclarationIn (signals d) = IsSignalsIn d
  IsDeclarationIn (constants d) = IsConstantsIn language d
  IsDeclarationIn (enumeration d) = IsEnumeration d
  IsDeclarationIn (component c) = IsComponentIn c
  IsDeclarationIn (subtype_of d) = IsSubtypeDeclarationIn language d
  IsDeclarationIn (attribute_of text) = IsTextIn language text
