-- Files, context clauses, entities and architectures (IEEE 1076-2008, 3.2, 3.3, 13): how they are spelled, and which
-- are well formed.
use Rattle.std.specs.Prelude.{Bool, Option, List, [], ◌∷◌, ◌++◌}
use Rattle.vhdl_lexer.specs.declared.language.Language.{Language}
use Rattle.vhdl_lexer.specs.declared.language.Language.TheVariants.{Profile}
use Rattle.vhdl_lexer.specs.declared.token.TokenKind.{TokenKind}
use Rattle.vhdl_lexer.specs.declared.token.TokenKind.TheVariants as k
use Rattle.vhdl_tree.specs.Tree.{Ident, Assertion, Entity, Architecture, Selected, ContextItem, library, uses, LibraryUnit, entity, architecture, DesignUnit, File}
use Rattle.vhdl_tree.specs.Pieces.{Piece, some, one_at, spell_ident, spell_idents, spell_word, spell_option, spell_each, spell_list, IsAny, IsEach, IsList, IsOption}
use Rattle.vhdl_tree.specs.grammar.Concurrent.{spell_assertion, spell_concurrent, IsAssertionIn, IsConcurrentIn}
use Rattle.vhdl_tree.specs.grammar.Declarations.{spell_generics, spell_ports, spell_declaration, AreGenericsIn, ArePortsIn, IsDeclarationIn}
use Rattle.vhdl_tree.specs.grammar.Texts.{spell_text, IsTextIn}
use Rattle.vhdl_tree.specs.grammar.Wide.{IsWide}

-- id . id . all
abbrev pub spell_selected : Selected → List Piece
spell_selected s = spell_ident s.library ++ (some k.Dot ∷ (spell_ident s.name ++ (some k.Dot ∷ (some k.All ∷ []))))

-- context = library ids ; | use id . id . all { , id . id . all } ;
abbrev pub spell_context : ContextItem → List Piece
spell_context (library names) = some k.Library ∷ (spell_idents names ++ some k.Semicolon ∷ [])
spell_context (uses all) = some k.Use ∷ (spell_list k.Comma spell_selected all ++ some k.Semicolon ∷ [])

-- end [ word ] [ id ] ;
abbrev pub spell_end : TokenKind → Bool → Option Ident → List Piece
spell_end word has_word name =
    some k.End ∷ (spell_word word has_word ++ (spell_option spell_ident name ++ some k.Semicolon ∷ []))

-- begin { assertion }
abbrev pub spell_entity_statements : List Assertion → List Piece
spell_entity_statements all = some k.Begin ∷ spell_each spell_assertion all

-- entity = entity id is [ generics ] [ ports ] { attribute text ; } [ begin { assertion } ] end [ entity ] [ id ] ;
abbrev pub spell_entity : Entity → List Piece
spell_entity e =
    one_at k.Entity e.at ∷ (spell_ident e.name ++ (some k.Is ∷ (spell_option spell_generics e.generics ++
    (spell_option spell_ports e.ports ++ (spell_each (spell_text k.Attribute) e.attributes ++
    (spell_option spell_entity_statements e.statements ++ spell_end k.Entity e.end_word e.end_name))))))

-- arch = architecture id of id is { decl } begin { conc } end [ architecture ] [ id ] ;
abbrev pub spell_architecture : Architecture → List Piece
spell_architecture a =
    one_at k.Architecture a.at ∷ (spell_ident a.name ++ (some k.Of ∷ (spell_ident a.entity ++ (some k.Is ∷
    (spell_each spell_declaration a.declarations ++ (some k.Begin ∷
    (spell_each spell_concurrent a.statements ++ spell_end k.Architecture a.end_word a.end_name)))))))

abbrev pub spell_library_unit : LibraryUnit → List Piece
spell_library_unit (entity e) = spell_entity e
spell_library_unit (architecture a) = spell_architecture a

-- { context } ( entity | arch )
abbrev pub spell_unit : DesignUnit → List Piece
spell_unit u = spell_each spell_context u.context ++ spell_library_unit u.unit

-- file = { { context } ( entity | arch ) }
abbrev pub spell_file : File → List Piece
spell_file f = spell_each spell_unit f.units

abbrev pub IsContext : ContextItem → Type 0
IsContext (library names) = IsList IsAny names
IsContext (uses all) = IsList IsAny all

module _ (language : Language) where
  -- statements stand in an entity in the wider language alone
  abbrev pub AreEntityStatementsIn : List Assertion → Type 0
  AreEntityStatementsIn all = IsWide language × IsEach (IsAssertionIn language) all

  abbrev pub IsEntityIn : Entity → Type 0
  IsEntityIn e =
      IsOption (AreGenericsIn language) e.generics × IsOption (ArePortsIn language) e.ports
      × IsEach (IsTextIn language) e.attributes × IsOption AreEntityStatementsIn e.statements

  abbrev pub IsArchitectureIn : Architecture → Type 0
  IsArchitectureIn a = IsEach (IsDeclarationIn language) a.declarations × IsEach (IsConcurrentIn language) a.statements

  abbrev pub IsLibraryUnitIn : LibraryUnit → Type 0
  IsLibraryUnitIn (entity e) = IsEntityIn e
  IsLibraryUnitIn (architecture a) = IsArchitectureIn a

  abbrev pub IsUnitIn : DesignUnit → Type 0
  IsUnitIn u = IsEach IsContext u.context × IsLibraryUnitIn u.unit

  -- a file of this language
  abbrev pub IsFileIn : File → Type 0
  IsFileIn f = IsEach IsUnitIn f.units

-- a file of the language of docs/LANGUAGE.md
abbrev pub IsFile : File → Type 0
IsFile = IsFileIn Profile
