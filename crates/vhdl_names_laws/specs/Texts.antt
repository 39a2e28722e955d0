-- What a component repeats of its entity (IEEE 1076-2008, 6.8 and 4.10): the same text, token for token apart
-- from case.
use Rattle.std.specs.Prelude.{◌≡◌, ℕ, List, map, Some}
use Rattle.std.specs.Char.{to_ascii_lowercase}
use Rattle.vhdl_tree.specs.Tree as t
use Rattle.vhdl_tree.specs.Pieces as p
use Rattle.vhdl_tree.specs.Pieces.{Piece, spell_option}
use Rattle.vhdl_tree.specs.grammar.Declarations.{spell_generics, spell_ports}
use Rattle.vhdl_names_rules.specs.Interfaces.{EntityView, entity_named}
use Rattle.vhdl_names_laws.specs.Words.{small}

-- a piece wherever it stands, in small letters
abbrev pub unplaced : Piece → Piece
unplaced (p.some kind) = p.some kind
unplaced (p.one_at kind at) = p.some kind
unplaced (p.word_at at text) = p.word_at 0 (small text)
unplaced (p.literal_at at code) = p.literal_at 0 (to_ascii_lowercase code)
unplaced (p.text_at kind at text) = p.text_at kind 0 (small text)

-- the same but for places and case
pub record AreSameText (ps qs : List Piece) : Type 0 where
  pub same : map unplaced ps ≡ map unplaced qs

-- the generics and ports of a component are those of the entity of its name
pub record IsTextOfEntity (entities : List EntityView) (c : t.Component) : Type 0 where
  pub number : ℕ
  pub entity : EntityView
  pub named : entity_named entities c.name.text ≡ Some (number, entity)
  pub generics : AreSameText (spell_option spell_generics c.generics) (spell_option spell_generics entity.generic_text)
  pub ports : AreSameText (spell_option spell_ports c.ports) (spell_option spell_ports entity.port_text)
