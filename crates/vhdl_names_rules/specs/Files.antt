-- The well-typed file and its units (IEEE 1076-2008, 3.2, 3.3 and clause 13).
use Rattle.std.specs.Prelude.{ℕ, take, Bool, List, [], ◌∷◌, ◌++◌, map, find, filter_map, Option, Some, None, option_map, bytes_eq}
use Rattle.std.specs.List.{list_all, enumerate_from}
use Rattle.vhdl_lexer.specs.declared.language.Language.{Language}
use Rattle.vhdl_tree.specs.Tree as t
use Rattle.vhdl_tree.specs.Tree.{File, DesignUnit, LibraryUnit, ContextItem}
use Rattle.vhdl_names_rules.specs.units.Units as u
use Rattle.vhdl_names_rules.specs.units.Units.{Units}
use Rattle.vhdl_names_rules.specs.declared.fault.NameProblem.TheVariants.{Undeclared, Twice, WrongKind, SecondArchitecture}
use Rattle.vhdl_names_rules.specs.Rules.{◌>>=◌, ◌>>◌, rule, each, if_any}
use Rattle.vhdl_names_rules.specs.Visibility as visibility
use Rattle.vhdl_names_rules.specs.Visibility.{Name, Declared, Sight, is_among, are_distinct, ends, all_declared, with_declared, Declares}
use Rattle.vhdl_names_rules.specs.Packages.{context, sight_of}
use Rattle.vhdl_names_rules.specs.Declarations.{in_order, signals, constants, subtype_declaration, enumeration}
use Rattle.vhdl_names_rules.specs.Interfaces.{EntityView, declared_names, entity, component}
use Rattle.vhdl_names_rules.specs.Concurrent.{concurrent_labels, concurrents}

-- ---- the entities and architectures of a file, in order of the text, each with the context items before it

abbrev pub as_entity : DesignUnit → Option (List ContextItem × t.Entity)
as_entity d = of_unit d.context d.unit
  where
    of_unit : List ContextItem → LibraryUnit → Option (List ContextItem × t.Entity)
    of_unit items (t.LibraryUnit.entity e) = Some (items, e)
    of_unit items (t.architecture a) = None

abbrev pub as_architecture : DesignUnit → Option (List ContextItem × t.Architecture)
as_architecture d = of_unit d.context d.unit
  where
    of_unit : List ContextItem → LibraryUnit → Option (List ContextItem × t.Architecture)
    of_unit items (t.LibraryUnit.entity e) = None
    of_unit items (t.architecture a) = Some (items, a)

abbrev pub entities_of : List DesignUnit → List (List ContextItem × t.Entity)
entities_of = filter_map as_entity

abbrev pub architectures_of : List DesignUnit → List (List ContextItem × t.Architecture)
architectures_of = filter_map as_architecture

abbrev pub entity_names : List DesignUnit → List Name
entity_names ds = map (λ e. e.1.name.text) (entities_of ds)

-- the entities that architectures are of
abbrev pub described_names : List DesignUnit → List Name
described_names ds = map (λ a. a.1.entity.text) (architectures_of ds)

-- each architecture stands after its entity, which is among the units before it
abbrev pub stands_after : List DesignUnit → ℕ × DesignUnit → Bool
stands_after ds d = list_all (λ n. is_among n (entity_names (take d.0 ds))) (described_names (d.1 ∷ []))

abbrev pub stand_after : List DesignUnit → Bool
stand_after ds = list_all (stands_after ds) (enumerate_from 0 ds)

-- the architecture of an entity
abbrev pub architecture_of : Name → List DesignUnit → Option (List ContextItem × t.Architecture)
architecture_of n ds = find (λ a. bytes_eq n a.1.entity.text) (architectures_of ds)

-- an entity, seen with its architecture's name
abbrev pub viewed : Language → List DesignUnit → List ContextItem × t.Entity → Option EntityView
viewed language ds e = entity language e.0 e.1 (option_map (λ a. a.1.name.text) (architecture_of e.1.name.text ds))

-- ---- architectures (3.3)

-- a declaration, with those before it in sight
abbrev pub declaration : List EntityView → Sight → t.Declaration → Option (Declares u.Declaration)
declaration entities sight (t.signals d) = signals sight d
declaration entities sight (t.constants d) = constants sight d
declaration entities sight (t.enumeration d) = enumeration sight d
declaration entities sight (t.component c) = component entities sight c
declaration entities sight (t.subtype_of d) = subtype_declaration sight d
-- an attribute of one's own (6.7, 7.2) is dropped
declaration entities sight (t.attribute_of text) = Some (record { declared = []; analysed = [] })

abbrev pub labelled : List Name → List Declared
labelled ns = all_declared visibility.label ns

-- An architecture has its entity's context, and its own. Its declarations and the labels of its statements are one
-- region with the entity's generics, ports and labels, in which each name is declared once.
unfoldable pub architecture : List EntityView → EntityView → List ContextItem → t.Architecture → Option u.Architecture
architecture entities e items a = do
  c ← context e.context items
  ds ← in_order with_declared (declaration entities) (sight_of c e.interface.declared) a.declarations
  let region = e.interface.declared ++ (ds.declared ++ labelled (concurrent_labels (t.concurrents_of a.statements)))
  rule Twice (are_distinct (declared_names region))
  body ← concurrents entities (sight_of c region) (t.concurrents_of a.statements)
  rule WrongKind (ends a.name.text a.end_name)
  Some (record { declarations = ds.analysed; statements = body })

-- ---- files

-- an entity with its architecture, if the file has one
unfoldable pub unit : List EntityView → List DesignUnit → EntityView → Option u.Entity
unit entities ds e = do
  a ← if_any (λ p. architecture entities e p.0 p.1) (architecture_of e.name ds)
  Some (record {
    at = e.at;
    name = e.name;
    generics = e.interface.generics;
    ports = e.interface.ports;
    architecture = a;
  })

-- No two entities have one name, no entity has two architectures, and each architecture stands after its entity;
-- instances may be of any entity of the file.
unfoldable pub units_of : Language → File → Option Units
units_of language f = do
  rule Twice (are_distinct (entity_names f.units))
  rule SecondArchitecture (are_distinct (described_names f.units))
  rule Undeclared (stand_after f.units)
  entities ← each (viewed language f.units) (entities_of f.units)
  each (unit entities f.units) entities
