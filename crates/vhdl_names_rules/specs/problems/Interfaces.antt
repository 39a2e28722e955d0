-- Which rules interfaces, entities and components break (IEEE 1076-2008, 3.2, 6.5.6 and 6.8).
use Rattle.std.specs.Prelude.{ℕ, ◌&&◌, List, [], ◌∷◌, ◌++◌, filter_map, Option}
use Rattle.vhdl_lexer.specs.declared.language.Language.{Language}
use Rattle.vhdl_tree.specs.Tree as t
use Rattle.vhdl_tree.specs.Tree.{ContextItem}
use Rattle.vhdl_names_rules.specs.declared.fault.NameProblem.TheVariants.{Undeclared, WrongKind}
use Rattle.vhdl_names_rules.specs.Rules.{all_of}
use Rattle.vhdl_names_rules.specs.Visibility.{Sight, with_declared}
use Rattle.vhdl_names_rules.specs.Packages as packages
use Rattle.vhdl_names_rules.specs.Packages.{no_context, sight_of}
use Rattle.vhdl_names_rules.specs.Declarations as declarations
use Rattle.vhdl_names_rules.specs.SameText.{same_generics, same_ports}
use Rattle.vhdl_names_rules.specs.Interfaces as interfaces
use Rattle.vhdl_names_rules.specs.Interfaces.{EntityView, entity_named}
use Rattle.vhdl_names_rules.specs.problems.Broken.{Broken, ◌▸◌, unless, lacking, where_given}
use Rattle.vhdl_names_rules.specs.problems.Declarations.{standing_twice, end_name, context, in_order, generic, port}

-- generics, then ports, which have the generics in sight
abbrev pub generics : Sight → List t.Generic → Broken
generics sight gs = in_order with_declared declarations.generic generic sight gs

abbrev pub ports : Sight → List t.Port → Broken
ports sight ps = in_order with_declared declarations.port port sight ps

abbrev pub interface : Sight → Option (List t.Generic) → Option (List t.Port) → Broken
interface sight gs ps =
    generics sight (all_of gs)
    ▸ where_given (declarations.in_order with_declared declarations.generic sight (all_of gs))
    (λ g. ports (with_declared sight g.declared) (all_of ps))

-- the labels of its assertions stand behind them
abbrev pub assertions : Sight → t.Entity → Broken
assertions sight e =
    where_given (interfaces.interface sight e.generics e.ports)
    (λ i. standing_twice i.declared (filter_map (λ (a : t.Assertion). a.label) (all_of e.statements)))

abbrev pub entity : Language → List ContextItem → t.Entity → Broken
entity language items e =
    context (no_context language) items
    ▸ where_given (packages.context (no_context language) items)
    (λ c. interface (sight_of c []) e.generics e.ports ▸ assertions (sight_of c []) e)
    ▸ end_name e.name e.end_name

-- a component is the text of the entity of its name
abbrev pub same_text : t.Component → ℕ × EntityView → Broken
same_text c e =
    unless WrongKind c.name.at (same_generics c.generics e.1.generic_text && same_ports c.ports e.1.port_text)

-- a component is a region of its own
abbrev pub component : List EntityView → Sight → t.Component → Broken
component entities sight c =
    standing_twice sight.region (c.name ∷ [])
    ▸ lacking Undeclared c.name.at (entity_named entities c.name.text)
    ▸ where_given (entity_named entities c.name.text) (same_text c)
    ▸ interface (record sight { region = []; enclosing = sight.region ++ sight.enclosing }) c.generics c.ports
    ▸ end_name c.name c.end_name
