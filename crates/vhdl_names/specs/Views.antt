-- What contracts see of a file's entities and architectures before they are analysed.
use Rattle.std.specs.Prelude.{ℕ, Bool, true, false, ◌&&◌, nat_eq, List, map, Vec}
use Rattle.std.specs.List.{list_any}
use Rattle.std.specs.Global.{Global}
use Rattle.indexmap.specs.IndexMap.{IndexMap}
use Rattle.vhdl_tree.specs.Tree as t
use Rattle.vhdl_tree.specs.Tree.{ContextItem, Ident}
use Rattle.vhdl_tree.specs.View as tree
use Rattle.vhdl_names_rules.specs.declared.fault.NameFault.{NameFault}
use Rattle.vhdl_names_rules.specs.declared.fault.NameFault.TheVariants.{At, NoMemory}
use Rattle.vhdl_names_rules.specs.declared.fault.NameProblem.{NameProblem}
use Rattle.vhdl_names_rules.specs.declared.fault.NameProblem.TheVariants.{Undeclared, Twice, WrongKind, TypeMismatch, NotVisible, WriteOfIn, NoOthers, ChoiceTwice, SecondArchitecture, NoSensitivity, LeftOut}
use Rattle.vhdl_names_rules.specs.Visibility.{Name}
use Rattle.vhdl_names_units.specs.Once.{names_view}
use Rattle.vhdl_names_interfaces.specs.Views.{entities_view}
use Rattle.vhdl_names_rules.specs.problems.Files as broken
use Rattle.vhdl_names.specs.declared.outline.Described.{Described}
use Rattle.vhdl_names.specs.declared.outline.Outline.{Outline}
use Rattle.vhdl_names.specs.declared.tables.Given.{Given}

-- an architecture behind its context items
abbrev pub described_view : Described → List ContextItem × t.Architecture
described_view d = (map tree.context_view d.items.now, tree.architecture_view d.tree.now)

-- an architecture under the name of its entity
pub record Keyed : Type 0 where
  pub name : Name
  pub unit : List ContextItem × t.Architecture

abbrev pub keyed_view : Vec ℕ Global × Described → Keyed
keyed_view e = record { name = e.0.items; unit = described_view e.1 }

abbrev pub architectures_view : {S : Type 0} → IndexMap (Vec ℕ Global) Described S → List Keyed
architectures_view m = map keyed_view m.entries

pub record OutlineView : Type 0 where
  pub entities : List Name
  pub architectures : List Keyed

abbrev pub outline_view : Outline → OutlineView
outline_view o = record { entities = names_view o.entities; architectures = architectures_view o.architectures }

-- whether an entity of this name isn't given
abbrev pub is_hidden : Given → Name → Bool
is_hidden g = broken.is_hidden (names_view g.names.now) (entities_view g.entities.now)

-- whether one of these identifiers stands at this byte and is such a name
abbrev pub one_is_hidden : Given → ℕ → List Ident → Bool
one_is_hidden g at is = list_any (λ i. nat_eq i.at at && is_hidden g i.text) is

abbrev pub is_undeclared : NameProblem → Bool
is_undeclared Undeclared = true
is_undeclared Twice = false
is_undeclared WrongKind = false
is_undeclared TypeMismatch = false
is_undeclared NotVisible = false
is_undeclared WriteOfIn = false
is_undeclared NoOthers = false
is_undeclared ChoiceTwice = false
is_undeclared SecondArchitecture = false
is_undeclared NoSensitivity = false
is_undeclared LeftOut = false

-- whether a fault of an architecture is told where it names such an entity
abbrev pub is_of_hidden : Given → t.Architecture → NameFault → Bool
is_of_hidden g a (At p at) = is_undeclared p && one_is_hidden g at (broken.mentions a)
is_of_hidden g a NoMemory = false
