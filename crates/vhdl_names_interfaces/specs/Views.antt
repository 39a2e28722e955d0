-- What contracts see of interfaces and entities.
use Rattle.std.specs.Prelude.{ℕ, List, [], ◌∷◌, ◌++◌, map, not, Option, Some, option_map, Vec}
use Rattle.indexmap.specs.IndexMap.{IndexMap}
use Rattle.std.specs.Global.{Global}
use Rattle.vhdl_tree.specs.View as tree
use Rattle.vhdl_names_rules.specs.declared.fault.NameProblem.TheVariants.{Twice, WrongKind}
use Rattle.vhdl_names_rules.specs.Rules.{◌>>=◌, ◌>>◌, rule}
use Rattle.vhdl_tree.specs.Tree.{ContextItem, Entity}
use Rattle.vhdl_names_rules.specs.Packages.{Context, context, sight_of}
use Rattle.vhdl_names_rules.specs.Visibility.{Name, Declared, Sight, ends, is_among, are_distinct}
use Rattle.vhdl_names_rules.specs.Interfaces.{Interface, EntityView, interface, assertion_labels, with_labels, declared_names}
use Rattle.vhdl_names_sight.specs.Views.{region_view}
use Rattle.vhdl_names_units.specs.declared.declaration.Generics.{Generics}
use Rattle.vhdl_names_units.specs.declared.declaration.Ports.{Ports}
use Rattle.vhdl_names_units.specs.views.Declarations.{all_generics_view, all_ports_view}
use Rattle.vhdl_names_packages.specs.Contexts.{context_view}
use Rattle.vhdl_names_interfaces.specs.declared.interface.EntityInterface.{EntityInterface}

-- generics and ports, in this region
abbrev pub interface_in : List Declared → Vec Generics Global × Vec Ports Global → Interface
interface_in ds x = record { declared = ds; generics = all_generics_view x.0; ports = all_ports_view x.1 }

abbrev pub entity_view : EntityInterface → EntityView
entity_view e = record {
  at = e.tree.now.name.at;
  name = e.tree.now.name.text.items;
  context = context_view e.context;
  interface = record {
    declared = region_view e.region;
    generics = all_generics_view e.generics;
    ports = all_ports_view e.ports;
  };
  generic_text = tree.option_generics_view e.tree.now.generics;
  port_text = tree.option_ports_view e.tree.now.ports;
  architecture = option_map (λ i. i.now.text.items) e.architecture;
}

-- an entity under a name
abbrev pub named_view : Name → EntityInterface → EntityView
named_view n e = record (entity_view e) { name = n }

-- a table of entities
abbrev pub entities_view : {S : Type 0} → IndexMap (Vec ℕ Global) EntityInterface S → List EntityView
entities_view t = map (λ e. named_view e.0.items e.1) t.entries

-- one more, whose name none before it has
abbrev pub one_more : List EntityView → EntityView → Option (List EntityView)
one_more es e = rule Twice (not (is_among e.name (map (λ d. d.name) es))) >>= λ _. Some (es ++ e ∷ [])

-- an entity of this interface
abbrev pub entity_of : Context → Interface → Entity → Option Name → EntityView
entity_of c i e a = record {
  at = e.name.at;
  name = e.name.text;
  context = c;
  interface = i;
  generic_text = e.generics;
  port_text = e.ports;
  architecture = a;
}

-- where its interface is given
abbrev pub behind_interface : Context → Entity → Option Name → Option Interface → Option EntityView
behind_interface c e a o = do
  i ← o
  rule Twice (are_distinct (declared_names i.declared ++ assertion_labels e.statements))
  rule WrongKind (ends e.name.text e.end_name)
  Some (entity_of c (with_labels i (assertion_labels e.statements)) e a)

-- an entity whose context clauses bring this in sight
abbrev pub entity_in : Context → Sight → Entity → Option Name → Option EntityView
entity_in c sight e a = behind_interface c e a (interface sight e.generics e.ports)

-- what is in sight where the architecture of an entity begins
abbrev pub sight_behind : EntityView → List ContextItem → Option Sight
sight_behind e items = context e.context items >>= λ c. Some (sight_of c e.interface.declared)
