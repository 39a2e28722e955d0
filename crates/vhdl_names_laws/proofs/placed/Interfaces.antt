-- What is told of entities and components stands at a piece of them.
use Rattle.std.proofs.Common.{ℕ, Bool, ◌&&◌, List, [], ◌∷◌, ◌++◌, Option, Some, None}
use Rattle.std.specs.List.{filter_map, cons_option}
use Rattle.vhdl_lexer.specs.declared.language.Language.{Language}
use Rattle.vhdl_lexer.specs.declared.token.TokenKind.{TokenKind}
use Rattle.vhdl_lexer.specs.declared.token.TokenKind.TheVariants as k
use Rattle.vhdl_tree.specs.Tree as t
use Rattle.vhdl_tree.specs.Tree.{Ident, ContextItem}
use Rattle.vhdl_tree.specs.Pieces.{spell_ident, spell_option, spell_word, spell_each, spell_list}
use Rattle.vhdl_tree.specs.grammar.Texts.{spell_text}
use Rattle.vhdl_tree.specs.grammar.Sequential.{spell_label}
use Rattle.vhdl_tree.specs.grammar.Concurrent.{spell_assertion}
use Rattle.vhdl_tree.specs.grammar.Declarations.{spell_generic, spell_generics, spell_port, spell_ports, spell_component}
use Rattle.vhdl_tree.specs.grammar.Units.{spell_end, spell_entity_statements, spell_entity}
use Rattle.vhdl_names_rules.specs.declared.fault.NameProblem.TheVariants.{Undeclared, WrongKind}
use Rattle.vhdl_names_rules.specs.Rules.{all_of}
use Rattle.vhdl_names_rules.specs.Visibility.{Sight, with_declared}
use Rattle.vhdl_names_rules.specs.Packages as packages
use Rattle.vhdl_names_rules.specs.Packages.{no_context, sight_of}
use Rattle.vhdl_names_rules.specs.Declarations as declarations
use Rattle.vhdl_names_rules.specs.SameText.{same_generics, same_ports}
use Rattle.vhdl_names_rules.specs.Interfaces as interfaces
use Rattle.vhdl_names_rules.specs.Interfaces.{EntityView, entity_named}
use Rattle.vhdl_names_rules.specs.problems.Broken.{◌▸◌}
use Rattle.vhdl_names_rules.specs.problems.Declarations.{standing_twice, end_name, generic, port}
use Rattle.vhdl_names_rules.specs.problems.Interfaces as broken
use Rattle.vhdl_names_laws.proofs.placed.Told.{Stand, EachStands, NamesStand, first, behind, Told, told_unless, told_lacking, told_given, told_behind, each_stands, list_stands}
use Rattle.vhdl_names_laws.proofs.placed.Declarations.{ItemsStand, standing_told, end_name_told, context_told, in_order_told, generic_told, port_told}

pub generics_stand : (P : ℕ → Type 0) (gs : Option (List t.Generic)) → Stand P (spell_option spell_generics gs) → EachStands P spell_generic (all_of gs)
generics_stand P None h = tt
generics_stand P (Some gs) h = list_stands P k.Semicolon spell_generic gs (first P (spell_list k.Semicolon spell_generic gs) _ h.1.1)

pub ports_stand : (P : ℕ → Type 0) (ps : Option (List t.Port)) → Stand P (spell_option spell_ports ps) → EachStands P spell_port (all_of ps)
ports_stand P None h = tt
ports_stand P (Some ps) h = list_stands P k.Semicolon spell_port ps (first P (spell_list k.Semicolon spell_port ps) _ h.1.1)

interface_told : (P : ℕ → Type 0) (sight : Sight) (gs : Option (List t.Generic)) (ps : Option (List t.Port)) → Stand P (spell_option spell_generics gs) → Stand P (spell_option spell_ports ps)
    → Told P (broken.interface sight gs ps)
interface_told P sight gs ps h g =
    told_behind (in_order_told P (λ d. Stand P (spell_generic d)) with_declared declarations.generic generic (generic_told P) (all_of gs) sight (generics_stand P gs h))
    (told_given (declarations.in_order with_declared declarations.generic sight (all_of gs)) (λ g. broken.ports (with_declared sight g.declared) (all_of ps))
    (λ x. in_order_told P (λ d. Stand P (spell_port d)) with_declared declarations.port port (port_told P) (all_of ps) (with_declared sight x.declared) (ports_stand P ps g)))

pub unit_end_told : (P : ℕ → Type 0) (word : TokenKind) (has_word : Bool) (name : Ident) (end : Option Ident) → Stand P (spell_end word has_word end) → Told P (end_name name end)
unit_end_told P word has_word name end h = end_name_told P name end (first P (spell_option spell_ident end) _ (behind P (spell_word word has_word) _ h.1))

-- ---- the labels of assertions

with_label : (P : ℕ → Type 0) (label : Option Ident) (is : List Ident) → Stand P (spell_option spell_label label) → NamesStand P is → NamesStand P (cons_option label is)
with_label P None is h g = g
with_label P (Some l) is h g = ((h.0, tt), g)

labels_stand : (P : ℕ → Type 0) (all : List t.Assertion) → EachStands P spell_assertion all → NamesStand P (filter_map (λ (a : t.Assertion). a.label) all)
labels_stand P [] h = tt
labels_stand P (a ∷ all) h =
    with_label P a.label (filter_map (λ (a : t.Assertion). a.label) all) (first P (spell_option spell_label a.label) _ h.0) (labels_stand P all h.1)

statements_stand : (P : ℕ → Type 0) (o : Option (List t.Assertion)) → Stand P (spell_option spell_entity_statements o) → EachStands P spell_assertion (all_of o)
statements_stand P None h = tt
statements_stand P (Some all) h = each_stands P spell_assertion all h.1

assertions_told : (P : ℕ → Type 0) (sight : Sight) (e : t.Entity) → Stand P (spell_option spell_entity_statements e.statements) → Told P (broken.assertions sight e)
assertions_told P sight e h =
    told_given (interfaces.interface sight e.generics e.ports) (λ i. standing_twice i.declared (filter_map (λ (a : t.Assertion). a.label) (all_of e.statements)))
    (λ i. standing_told P i.declared (filter_map (λ (a : t.Assertion). a.label) (all_of e.statements)) (labels_stand P (all_of e.statements) (statements_stand P e.statements h)))

-- ---- entities and components

pub entity_told : (P : ℕ → Type 0) (language : Language) (items : List ContextItem) (e : t.Entity) → ItemsStand P items → Stand P (spell_entity e) → Told P (broken.entity language items e)
entity_told P language items e h g =
    let ports = behind P (spell_option spell_generics e.generics) _ g.1.1.1 in
    let statements = behind P (spell_each (spell_text k.Attribute) e.attributes) _ (behind P (spell_option spell_ports e.ports) _ ports) in
    told_behind (context_told P items (no_context language) h)
    (told_behind
    (told_given (packages.context (no_context language) items) (λ c. broken.interface (sight_of c []) e.generics e.ports ▸ broken.assertions (sight_of c []) e)
    (λ c. told_behind (interface_told P (sight_of c []) e.generics e.ports (first P (spell_option spell_generics e.generics) _ g.1.1.1) (first P (spell_option spell_ports e.ports) _ ports))
    (assertions_told P (sight_of c []) e (first P (spell_option spell_entity_statements e.statements) _ statements))))
    (unit_end_told P k.Entity e.end_word e.name e.end_name (behind P (spell_option spell_entity_statements e.statements) _ statements)))

pub component_told : (P : ℕ → Type 0) (entities : List EntityView) (sight : Sight) (c : t.Component) → Stand P (spell_component c) → Told P (broken.component entities sight c)
component_told P entities sight c h =
    let name = h.1.0 in
    let generics = behind P (spell_word k.Is c.is_word) _ h.1.1 in
    let ports = behind P (spell_option spell_generics c.generics) _ generics in
    let end = (behind P (spell_option spell_ports c.ports) _ ports).1.1 in
    told_behind (standing_told P sight.region (c.name ∷ []) ((name, tt), tt))
    (told_behind (told_lacking Undeclared c.name.at (entity_named entities c.name.text) name)
    (told_behind (told_given (entity_named entities c.name.text) (broken.same_text c)
    (λ e. told_unless WrongKind c.name.at (same_generics c.generics e.1.generic_text && same_ports c.ports e.1.port_text) name))
    (told_behind (interface_told P (record sight { region = []; enclosing = sight.region ++ sight.enclosing }) c.generics c.ports
    (first P (spell_option spell_generics c.generics) _ generics) (first P (spell_option spell_ports c.ports) _ ports))
    (end_name_told P c.name c.end_name (first P (spell_option spell_ident c.end_name) _ end)))))
