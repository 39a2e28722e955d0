-- Interfaces of entities and components (IEEE 1076-2008, 3.2, 6.5.6 and 6.8).
use Rattle.std.specs.Prelude.{ℕ, ◌&&◌, List, [], ◌∷◌, ◌++◌, map, find, filter_map, Option, Some, option_map, bytes_eq}
use Rattle.std.specs.List.{enumerate_from}
use Rattle.vhdl_lexer.specs.declared.language.Language.{Language}
use Rattle.vhdl_tree.specs.Tree as t
use Rattle.vhdl_tree.specs.Tree.{Ident}
use Rattle.vhdl_names_rules.specs.units.Units as u
use Rattle.vhdl_names_rules.specs.declared.fault.NameProblem.TheVariants.{Twice, WrongKind}
use Rattle.vhdl_names_rules.specs.Rules.{◌>>=◌, ◌>>◌, rule, all_of}
use Rattle.vhdl_names_rules.specs.Visibility as visibility
use Rattle.vhdl_names_rules.specs.Visibility.{declare, Name, Declared, Sight, all_declared, are_distinct, ends, with_declared, Declares}
use Rattle.vhdl_names_rules.specs.Packages.{Context, no_context, context, sight_of}
use Rattle.vhdl_names_rules.specs.Declarations.{in_order, generic, port}
use Rattle.vhdl_names_rules.specs.SameText.{same_generics, same_ports}

-- ---- generics and ports

pub record Interface : Type 0 where
  pub declared : List Declared
  pub generics : List u.Generic
  pub ports : List u.Port

-- names of one region, each of which is declared once (12.1)
abbrev pub declared_names : List Declared → List Name
declared_names = map (λ d. d.name)

-- the ports have the generics in sight; no name stands twice
unfoldable pub interface : Sight → Option (List t.Generic) → Option (List t.Port) → Option Interface
interface sight gs ps = do
  g ← in_order with_declared generic sight (all_of gs)
  p ← in_order with_declared port (with_declared sight g.declared) (all_of ps)
  rule Twice (are_distinct (declared_names (g.declared ++ p.declared)))
  Some (record { declared = g.declared ++ p.declared; generics = g.analysed; ports = p.analysed })

-- ---- entities

-- an entity as its architecture and its instances see it
pub record EntityView : Type 0 where
  -- where its name starts
  pub at : ℕ
  pub name : Name
  -- what its context clauses bring in sight
  pub context : Context
  pub interface : Interface
  -- its generics and ports as they stand
  pub generic_text : Option (List t.Generic)
  pub port_text : Option (List t.Port)
  -- the name of its architecture, if the file has one
  pub architecture : Option Name

-- of an entity's assertions, which are dropped otherwise (3.2.4)
abbrev pub assertion_labels : Option (List t.Assertion) → List Name
assertion_labels s = filter_map (λ (a : t.Assertion). option_map (λ (l : Ident). l.text) a.label) (all_of s)

-- they stand in the region of its generics and ports
abbrev pub with_labels : Interface → List Name → Interface
with_labels i [] = i
with_labels i (l ∷ ls) = record i { declared = i.declared ++ all_declared visibility.label (l ∷ ls) }

-- an entity with the context items before it (3.2)
unfoldable pub entity : Language → List t.ContextItem → t.Entity → Option Name → Option EntityView
entity language items e architecture = do
  c ← context (no_context language) items
  i ← interface (sight_of c []) e.generics e.ports
  rule Twice (are_distinct (declared_names i.declared ++ assertion_labels e.statements))
  rule WrongKind (ends e.name.text e.end_name)
  Some (record {
    at = e.name.at;
    name = e.name.text;
    context = c;
    interface = with_labels i (assertion_labels e.statements);
    generic_text = e.generics;
    port_text = e.ports;
    architecture = architecture;
  })

-- the entity of a name, with its number
abbrev pub entity_named : List EntityView → Name → Option (ℕ × EntityView)
entity_named entities n = find (λ e. bytes_eq n e.1.name) (enumerate_from 0 entities)

-- ---- components (6.8)

-- A component is the text of the entity of its name. It is a region of its own, and its words mean the same where
-- it stands.
unfoldable pub component : List EntityView → Sight → t.Component → Option (Declares u.Declaration)
component entities sight c = do
  e ← entity_named entities c.name.text
  rule WrongKind (same_generics c.generics e.1.generic_text && same_ports c.ports e.1.port_text)
  i ← interface (record sight { region = []; enclosing = sight.region ++ sight.enclosing }) c.generics c.ports
  rule WrongKind (ends c.name.text c.end_name)
  Some (record { declared = declare c.name.text (visibility.component e.0) ∷ []; analysed = [] })
