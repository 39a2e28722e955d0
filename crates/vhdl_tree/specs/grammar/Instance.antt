-- Instances (IEEE 1076-2008, 11.7): how they are spelled, and which are well formed.
use Rattle.std.specs.Prelude.{List, [], ◌∷◌, ◌++◌}
use Rattle.vhdl_lexer.specs.declared.language.Language.{Language}
use Rattle.vhdl_lexer.specs.declared.token.TokenKind.{TokenKind}
use Rattle.vhdl_lexer.specs.declared.token.TokenKind.TheVariants as k
use Rattle.vhdl_tree.specs.Tree.{Ident, Association, Instantiated, entity_unit, component_unit, Instance}
use Rattle.vhdl_tree.specs.Pieces.{Piece, some, spell_ident, spell_word, spell_option, IsOption}
use Rattle.vhdl_tree.specs.grammar.Expressions.{spell_associations, AreAssociationsIn}

-- ( id )
abbrev pub spell_chosen : Ident → List Piece
spell_chosen i = some k.LeftParen ∷ (spell_ident i ++ some k.RightParen ∷ [])

-- entity id . id [ ( id ) ] | [ component ] id
abbrev pub spell_instantiated : Instantiated → List Piece
spell_instantiated (entity_unit library name chosen) =
    some k.Entity ∷ (spell_ident library ++ (some k.Dot ∷ (spell_ident name ++ spell_option spell_chosen chosen)))
spell_instantiated (component_unit word name) = spell_word k.Component word ++ spell_ident name

-- generic map ( assoc { , assoc } ) | port map ( assoc { , assoc } )
abbrev pub spell_map : TokenKind → List Association → List Piece
spell_map word all = some word ∷ (some k.Map ∷ (some k.LeftParen ∷ (spell_associations all ++ some k.RightParen ∷ [])))

-- instance = ( .. ) [ generic map ( .. ) ] [ port map ( .. ) ] ;
abbrev pub spell_instance : Instance → List Piece
spell_instance i =
    spell_instantiated i.unit ++ (spell_option (spell_map k.Generic) i.generics
    ++ (spell_option (spell_map k.Port) i.ports ++ some k.Semicolon ∷ []))

abbrev pub IsInstanceIn : Language → Instance → Type 0
IsInstanceIn language i =
    IsOption (AreAssociationsIn language) i.generics × IsOption (AreAssociationsIn language) i.ports
