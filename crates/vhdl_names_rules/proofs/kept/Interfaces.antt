-- Interfaces, entities and components that are given break no rule (IEEE 1076-2008, 3.2, 6.5.6 and 6.8).
use Rattle.std.proofs.Common.{◌≡◌, true, ◌&&◌, List, [], ◌∷◌, ◌++◌, Option, Some, None, refl, ap, sym, ◌∙◌}
use Rattle.std.specs.Prelude.{option_map}
use Rattle.std.specs.List.{filter_map, cons_option}
use Rattle.vhdl_lexer.specs.declared.language.Language.{Language}
use Rattle.vhdl_tree.specs.Tree as t
use Rattle.vhdl_tree.specs.Tree.{Ident, ContextItem}
use Rattle.vhdl_names_rules.specs.declared.fault.NameProblem.TheVariants.{Undeclared, WrongKind}
use Rattle.vhdl_names_rules.specs.units.Units as u
use Rattle.vhdl_names_rules.specs.Rules.{all_of}
use Rattle.vhdl_names_rules.specs.Visibility.{Name, names_of, Sight, are_distinct, with_declared, Declares}
use Rattle.vhdl_names_rules.specs.Packages.{no_context, context, sight_of}
use Rattle.vhdl_names_rules.specs.Declarations.{in_order, generic, port}
use Rattle.vhdl_names_rules.specs.SameText.{same_generics, same_ports}
use Rattle.vhdl_names_rules.specs.Interfaces as are
use Rattle.vhdl_names_rules.specs.Interfaces.{Interface, EntityView, declared_names, entity_named}
use Rattle.vhdl_names_rules.specs.problems.Broken.{◌▸◌}
use Rattle.vhdl_names_rules.specs.problems.Declarations as declarations
use Rattle.vhdl_names_rules.specs.problems.Interfaces as broken
use Rattle.vhdl_names_rules.specs.problems.Interfaces.{same_text}
use Rattle.vhdl_names_rules.proofs.laws.Rules.{comes, kept}
use Rattle.vhdl_names_rules.proofs.laws.Parts.{entity_parts, component_parts}
use Rattle.vhdl_names_rules.proofs.Telling.{IsKept, both_kept, unless_kept, lacking_kept, given_kept}
use Rattle.vhdl_names_rules.proofs.kept.Twice.{twice_kept, distinct_front, names_append}
use Rattle.vhdl_names_rules.proofs.kept.Named.{of_component}
use Rattle.vhdl_names_rules.proofs.kept.Declarations.{standing_kept, end_name_kept, context_kept, in_region_kept, generic_kept, port_kept}

pub generics_kept : (sight : Sight) (gs : List t.Generic) (x : Declares u.Generic) → in_order with_declared generic sight gs ≡ Some x
    → are_distinct (declared_names (sight.region ++ x.declared)) ≡ true → IsKept (broken.generics sight gs)
generics_kept sight gs x h distinct = in_region_kept generic declarations.generic generic_kept gs sight x h distinct

pub ports_kept : (sight : Sight) (ps : List t.Port) (x : Declares u.Port) → in_order with_declared port sight ps ≡ Some x
    → are_distinct (declared_names (sight.region ++ x.declared)) ≡ true → IsKept (broken.ports sight ps)
ports_kept sight ps x h distinct = in_region_kept port declarations.port port_kept ps sight x h distinct

-- an interface is a region of its own
pub interface_kept : (sight : Sight) (gs : Option (List t.Generic)) (ps : Option (List t.Port)) (i : Interface) → sight.region ≡ [] → are.interface sight gs ps ≡ Some i
    → IsKept (broken.interface sight gs ps)
unfolding are.interface
interface_kept sight gs ps i none h =
    let g = comes (in_order with_declared generic sight (all_of gs)) _ i h in
    let p = comes (in_order with_declared port (with_declared sight g.value.declared) (all_of ps)) _ i g.rest in
    let k = kept (are_distinct (declared_names (g.value.declared ++ p.value.declared))) _ i p.rest in
    let first : are_distinct (declared_names g.value.declared) ≡ true =
    distinct_front (declared_names g.value.declared) (declared_names p.value.declared)
    (ap are_distinct (sym (names_append g.value.declared p.value.declared)) ∙ k.0) in
    both_kept _ _ (generics_kept sight (all_of gs) g.value g.is (ap (λ r. are_distinct (declared_names (r ++ g.value.declared))) none ∙ first))
    (given_kept (λ g. broken.ports (with_declared sight g.declared) (all_of ps)) (in_order with_declared generic sight (all_of gs)) g.value g.is
    (ports_kept (with_declared sight g.value.declared) (all_of ps) p.value p.is
    (ap (λ r. are_distinct (declared_names ((r ++ g.value.declared) ++ p.value.declared))) none ∙ k.0)))

-- the labels of assertions are those of the rules
assertions_named : (as' : List t.Assertion) → names_of (filter_map (λ (a : t.Assertion). a.label) as') ≡ filter_map (λ (a : t.Assertion). option_map (λ (l : Ident). l.text) a.label) as'
assertions_named [] = refl
assertions_named (a ∷ as') = go a.label (assertions_named as')
  where
    go : (o : Option Ident) → names_of (filter_map (λ (a : t.Assertion). a.label) as') ≡ filter_map (λ (a : t.Assertion). option_map (λ (l : Ident). l.text) a.label) as'
        → names_of (cons_option o (filter_map (λ (a : t.Assertion). a.label) as'))
        ≡ cons_option (option_map (λ (l : Ident). l.text) o) (filter_map (λ (a : t.Assertion). option_map (λ (l : Ident). l.text) a.label) as')
    go None more = more
    go (Some l) more = ap (λ ns. l.text ∷ ns) more

pub entity_kept : (language : Language) (items : List ContextItem) (e : t.Entity) (architecture : Option Name) (v : EntityView) → are.entity language items e architecture ≡ Some v
    → IsKept (broken.entity language items e)
entity_kept language items e architecture v h =
    let p = entity_parts language items e architecture v h in
    let labels : List Ident = filter_map (λ (a : t.Assertion). a.label) (all_of e.statements) in
    both_kept _ _ (context_kept items (no_context language) p.seen.value p.seen.is)
    (both_kept _ _
    (given_kept (λ c. broken.interface (sight_of c []) e.generics e.ports ▸ broken.assertions (sight_of c []) e) (context (no_context language) items) p.seen.value p.seen.is
    (both_kept _ _ (interface_kept (sight_of p.seen.value []) e.generics e.ports p.own.value refl p.own.is)
    (given_kept (λ i. declarations.standing_twice i.declared labels) (are.interface (sight_of p.seen.value []) e.generics e.ports) p.own.value p.own.is
    (twice_kept (declared_names p.own.value.declared) labels
    (ap (λ ns. are_distinct (declared_names p.own.value.declared ++ ns)) (assertions_named (all_of e.statements)) ∙ p.distinct)))))
    (end_name_kept e.name e.end_name p.ended))

pub component_kept : (entities : List EntityView) (sight : Sight) (c : t.Component) (x : Declares u.Declaration) → are.component entities sight c ≡ Some x
    → are_distinct (declared_names (sight.region ++ x.declared)) ≡ true → IsKept (broken.component entities sight c)
component_kept entities sight c x h distinct =
    let inner : Sight = record sight { region = []; enclosing = sight.region ++ sight.enclosing } in
    let p = component_parts entities sight c x h in
    both_kept _ _ (standing_kept sight.region (c.name ∷ []) x (of_component entities sight c x h) distinct)
    (both_kept _ _ (lacking_kept Undeclared c.name.at (entity_named entities c.name.text) p.found.value p.found.is)
    (both_kept _ _
    (given_kept (same_text c) (entity_named entities c.name.text) p.found.value p.found.is
    (unless_kept WrongKind c.name.at (same_generics c.generics p.found.value.1.generic_text && same_ports c.ports p.found.value.1.port_text) p.alike))
    (both_kept _ _ (interface_kept inner c.generics c.ports p.own.value refl p.own.is) (end_name_kept c.name c.end_name p.ended))))
