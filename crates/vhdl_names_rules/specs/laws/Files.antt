-- The laws of a file's units (IEEE 1076-2008, 3.2, 3.3 and clause 13).
use Rattle.std.specs.Prelude.{◌≡◌, ℕ, ◌<◌, map, slice_get, Some}
use Rattle.vhdl_lexer.specs.declared.language.Language.{Language}
use Rattle.vhdl_tree.specs.Tree as t
use Rattle.vhdl_tree.specs.Tree.{File, DesignUnit}
use Rattle.vhdl_names_rules.specs.units.Units as u
use Rattle.vhdl_names_rules.specs.units.Units.{Units}
use Rattle.vhdl_names_rules.specs.Visibility.{Name}
use Rattle.vhdl_names_rules.specs.Files.{entity_names, described_names, units_of}
use Rattle.vhdl_names_rules.specs.laws.Once.{StandOnce}

-- this unit of the file is an entity of this name
pub record IsEntityAt (f : File) (j : ℕ) (name : Name) : Type 0 where
  pub unit : DesignUnit
  pub entity : t.Entity
  pub at : slice_get f.units j ≡ Some unit
  pub is : unit.unit ≡ t.LibraryUnit.entity entity
  pub named : entity.name.text ≡ name

pub record StandInOrder (f : File) (units : Units) : Type 0 where
  -- The units are the entities in order of the text, no two of one name;
  pub in_order : map (λ (e : u.Entity). e.name) units ≡ entity_names f.units
  pub once : StandOnce (entity_names f.units)
  -- no two architectures are of one entity;
  pub one_architecture : StandOnce (described_names f.units)
  -- and before each architecture stands its entity.
  pub entity_first : (k : ℕ) (d : DesignUnit) (a : t.Architecture)
      → slice_get f.units k ≡ Some d → d.unit ≡ t.LibraryUnit.architecture a
      → (j : ℕ) × (j < k) × IsEntityAt f j a.entity.text

abbrev pub EntitiesStandInOrder : Type 0
EntitiesStandInOrder =
    (language : Language) (f : File) (units : Units) → units_of language f ≡ Some units → StandInOrder f units
