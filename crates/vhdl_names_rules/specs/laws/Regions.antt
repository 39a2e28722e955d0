-- The laws of regions, and of what names mean (IEEE 1076-2008, 12.1 to 12.3). Names are those of the text.
use Rattle.std.specs.Prelude.{◌≡◌, ℕ, Bool, List, [], ◌∷◌, ◌++◌, flat_map, slice_get, Option, Some}
use Rattle.vhdl_tree.specs.Tree as t
use Rattle.vhdl_tree.specs.Tree.{Ident, ContextItem}
use Rattle.vhdl_names_rules.specs.units.Units as u
use Rattle.vhdl_names_rules.specs.Rules.{all_of}
use Rattle.vhdl_names_rules.specs.Visibility.{Name, Meaning, Declared, names_of, Sight, in_sight, meaning}
use Rattle.vhdl_names_rules.specs.Interfaces.{Interface, declared_names, interface, EntityView}
use Rattle.vhdl_names_rules.specs.Statements.{statement_labels}
use Rattle.vhdl_names_rules.specs.Concurrent.{process, concurrent_labels, concurrent}
use Rattle.vhdl_names_rules.specs.Files.{architecture}
use Rattle.vhdl_names_rules.specs.laws.Once.{StandOnce}

-- ---- regions

-- the names of generics and ports as they stand
abbrev pub interface_names : Option (List t.Generic) → Option (List t.Port) → List Name
interface_names gs ps =
    flat_map (λ (g : t.Generic). names_of g.names) (all_of gs)
    ++ flat_map (λ (p : t.Port). names_of p.names) (all_of ps)

-- An interface declares the names that stand in it, each once.
abbrev pub InterfaceNamesStandOnce : Type 0
InterfaceNamesStandOnce = (sight : Sight) (gs : Option (List t.Generic)) (ps : Option (List t.Port)) (i : Interface)
    → interface sight gs ps ≡ Some i
    → (declared_names i.declared ≡ interface_names gs ps) × StandOnce (interface_names gs ps)

-- the names that a declaration declares
abbrev pub names_in : t.Declaration → List Name
names_in (t.signals d) = names_of d.names
names_in (t.constants d) = names_of d.names
names_in (t.enumeration d) = d.name.text ∷ names_of d.literals
names_in (t.component c) = c.name.text ∷ []
names_in (t.subtype_of d) = d.name.text ∷ []
names_in (t.attribute_of text) = []

-- and one of a process
abbrev pub process_names_in : t.ProcessDeclaration → List Name
process_names_in (t.variables d) = names_of d.names
process_names_in (t.process_constants d) = names_of d.names
process_names_in (t.process_enumeration d) = d.name.text ∷ names_of d.literals
process_names_in (t.process_subtype d) = d.name.text ∷ []

-- In the region of an entity and its architecture no name stands twice: generics, ports, declarations and labels.
abbrev pub ArchitectureNamesStandOnce : Type 0
ArchitectureNamesStandOnce =
    (entities : List EntityView) (e : EntityView) (items : List ContextItem) (a : t.Architecture) (x : u.Architecture)
    → architecture entities e items a ≡ Some x
    → StandOnce (declared_names e.interface.declared
    ++ (flat_map names_in a.declarations ++ concurrent_labels (t.concurrents_of a.statements)))

-- Nor among a process's declarations, nor among the labels inside it.
abbrev pub ProcessNamesStandOnce : Type 0
ProcessNamesStandOnce =
    (sight : Sight) (label : Option Ident) (p : t.Process) (x : u.Process) → process sight label p ≡ Some x
    → StandOnce (flat_map process_names_in p.declarations)
    × StandOnce (statement_labels (t.statements_of p.statements))

-- Nor among the labels of a generate's statements.
abbrev pub GenerateLabelsStandOnce : Type 0
GenerateLabelsStandOnce =
    (entities : List EntityView) (sight : Sight) (label : Ident) (at : ℕ)
    (scheme : t.Scheme) (word : Bool) (cs : t.Concurrents) (end : Option Ident)
    (x : u.Concurrent) → concurrent entities sight (t.generated label at scheme word cs end) ≡ Some x
    → StandOnce (concurrent_labels cs)

-- ---- meanings

-- A name means what the one declaration of it in a region is, where no region within that one declares it, whatever the
-- regions outside declare.
abbrev pub InnermostIsMeant : Type 0
InnermostIsMeant = (sight : Sight) (inner region outer : List Declared) (n : Name) (k : ℕ) (d : Declared)
    → in_sight sight ≡ inner ++ (region ++ outer)
    → ((j : ℕ) (e : Declared) → slice_get inner j ≡ Some e → e.name ≡ n → ⊥)
    → StandOnce (declared_names region) → slice_get region k ≡ Some d → d.name ≡ n
    → meaning sight n ≡ Some d.meaning

-- A name means nothing but what a declaration of it in sight is.
abbrev pub MeaningsAreDeclared : Type 0
MeaningsAreDeclared = (sight : Sight) (n : Name) (m : Meaning) → meaning sight n ≡ Some m
    → (k : ℕ) × (d : Declared) × (slice_get (in_sight sight) k ≡ Some d) × (d.name ≡ n) × (d.meaning ≡ m)
