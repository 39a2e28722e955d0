-- Instances in the order in which the code comes to their parts.
use Rattle.std.specs.Prelude.{ℕ, List, Option, Some, bytes_eq, codes, slice_get}
use Rattle.std.specs.List.{position_from}
use Rattle.vhdl_tree.specs.Tree as t
use Rattle.vhdl_tree.specs.Tree.{Ident, Association}
use Rattle.vhdl_names_rules.specs.units.Units as u
use Rattle.vhdl_names_rules.specs.declared.fault.NameProblem.TheVariants.{Undeclared, WrongKind}
use Rattle.vhdl_names_rules.specs.Rules.{◌>>=◌, ◌>>◌, rule, all_of}
use Rattle.vhdl_names_rules.specs.Visibility.{Name, Sight, meaning}
use Rattle.vhdl_names_rules.specs.Instances.{associated, is_architecture, as_component}
use Rattle.vhdl_names_instances.specs.Table.{Seen}
use Rattle.vhdl_names_instances.specs.steps.Actuals.{port_actuals}
use Rattle.vhdl_names_instances.specs.steps.Generics.{generic_actuals}

-- the entity of a number, whose architecture may be named
abbrev pub with_architecture : List Seen → Option Ident → ℕ → Option ℕ
with_architecture seens architecture k = do
  e ← slice_get seens k
  rule WrongKind (is_architecture architecture e.architecture)
  Some k

-- work . entity ( architecture )
abbrev pub entity_of : List Name → List Seen → Ident → Ident → Option Ident → Option ℕ
entity_of names seens library n architecture = do
  rule Undeclared (bytes_eq library.text (codes "work"))
  k ← position_from (bytes_eq n.text) 0 names
  with_architecture seens architecture k

abbrev pub instantiated : List Name → List Seen → Sight → t.Instantiated → Option ℕ
instantiated names seens sight (t.entity_unit library n architecture) = entity_of names seens library n architecture
instantiated names seens sight (t.component_unit word n) = meaning sight n.text >>= as_component

abbrev pub with_formals : Sight → Ident → ℕ → Seen → List Association → List Association → Option u.Instance
with_formals sight label k e as' bs = do
  gs ← associated e.generics as'
  generics ← generic_actuals sight e.generic_kinds gs
  ps ← associated e.ports bs
  ports ← port_actuals sight e.port_types ps
  Some (record { at = label.at; label = label.text; unit = k; generics = generics; ports = ports })

abbrev pub instance : List Name → List Seen → Sight → Ident → t.Instance → Option u.Instance
instance names seens sight label i = do
  k ← instantiated names seens sight i.unit
  e ← slice_get seens k
  with_formals sight label k e (all_of i.generics) (all_of i.ports)
