-- Interfaces, entities and components that break no rule are given (IEEE 1076-2008, 3.2, 6.5.6 and 6.8).
use Rattle.std.proofs.Common.{◌≡◌, true, ◌&&◌, List, [], ◌∷◌, ◌++◌, Option, Some, None, refl, ap, sym, ◌∙◌}
use Rattle.std.specs.Prelude.{option_map}
use Rattle.std.specs.List.{filter_map, cons_option}
use Rattle.std.proofs.lemmas.List.{append-nil}
use Rattle.vhdl_lexer.specs.declared.language.Language.{Language}
use Rattle.vhdl_tree.specs.Tree as t
use Rattle.vhdl_tree.specs.Tree.{Ident, ContextItem}
use Rattle.vhdl_names_rules.specs.declared.fault.NameProblem.TheVariants.{Undeclared, WrongKind}
use Rattle.vhdl_names_rules.specs.Rules.{all_of}
use Rattle.vhdl_names_rules.specs.Visibility.{Name, names_of, Sight, are_distinct, ends, with_declared}
use Rattle.vhdl_names_rules.specs.Packages.{no_context, context, sight_of}
use Rattle.vhdl_names_rules.specs.Declarations.{in_order, generic, port}
use Rattle.vhdl_names_rules.specs.SameText.{same_generics, same_ports}
use Rattle.vhdl_names_rules.specs.Interfaces as are
use Rattle.vhdl_names_rules.specs.Interfaces.{Interface, EntityView, declared_names, assertion_labels, with_labels, entity_named}
use Rattle.vhdl_names_rules.specs.Files.{labelled}
use Rattle.vhdl_names_rules.specs.problems.Broken.{◌▸◌, lacking, where_given}
use Rattle.vhdl_names_rules.specs.problems.Declarations as declarations
use Rattle.vhdl_names_rules.specs.problems.Declarations.{end_name}
use Rattle.vhdl_names_rules.specs.problems.Interfaces as broken
use Rattle.vhdl_names_rules.specs.problems.Interfaces.{same_text}
use Rattle.vhdl_names_rules.proofs.laws.Rules.{comes, kept, some_is}
use Rattle.vhdl_names_rules.proofs.laws.Parts.{entity_parts}
use Rattle.vhdl_names_rules.proofs.Telling.{IsKept}
use Rattle.vhdl_names_rules.proofs.kept.Twice.{once_distinct, names_append}
use Rattle.vhdl_names_rules.proofs.kept.Named.{of_component}
use Rattle.vhdl_names_rules.proofs.kept.Architectures.{names_labelled}
use Rattle.vhdl_names_laws.proofs.given.Giving.{IsGiven, this, bound, ruled, parts, holds, given, of_given}
use Rattle.vhdl_names_laws.proofs.given.Declarations.{IsApart, stands_apart, end_name_given, context_given, in_region_given, generic_given, port_given}

-- an interface is a region of its own
interface_given : (sight : Sight) (gs : Option (List t.Generic)) (ps : Option (List t.Port)) → sight.region ≡ [] → IsKept (broken.interface sight gs ps)
    → IsGiven (are.interface sight gs ps)
unfolding are.interface
interface_given sight gs ps none h =
    let k = parts _ _ h in
    let g = in_region_given generic declarations.generic generic_given (all_of gs) sight (ap (λ r. are_distinct (declared_names r)) none) k.0 in
    let inner : Sight = with_declared sight g.value.declared in
    let p = in_region_given port declarations.port port_given (all_of ps) inner g.distinct
    (of_given (λ g. broken.ports (with_declared sight g.declared) (all_of ps)) (in_order with_declared generic sight (all_of gs)) g.value g.is k.1) in
    let distinct : are_distinct (declared_names (g.value.declared ++ p.value.declared)) ≡ true =
    ap (λ r. are_distinct (declared_names ((r ++ g.value.declared) ++ p.value.declared))) (sym none) ∙ p.distinct in
    bound (in_order with_declared generic sight (all_of gs)) _ g.value g.is
    (bound (in_order with_declared port inner (all_of ps)) _ p.value p.is
    (ruled (are_distinct (declared_names (g.value.declared ++ p.value.declared))) _ distinct (this _)))

-- its names are distinct
own_distinct : (sight : Sight) (gs : Option (List t.Generic)) (ps : Option (List t.Port)) (i : Interface) → are.interface sight gs ps ≡ Some i → are_distinct (declared_names i.declared) ≡ true
unfolding are.interface
own_distinct sight gs ps i h =
    let g = comes (in_order with_declared generic sight (all_of gs)) _ i h in
    let p = comes (in_order with_declared port (with_declared sight g.value.declared) (all_of ps)) _ i g.rest in
    let d = kept (are_distinct (declared_names (g.value.declared ++ p.value.declared))) _ i p.rest in
    ap (λ (i : Interface). are_distinct (declared_names i.declared)) (sym (some_is _ i d.1)) ∙ d.0

-- ---- the labels of assertions

label_named : (o : Option Ident) (is : List Ident) (ns : List Name) → names_of is ≡ ns → names_of (cons_option o is) ≡ cons_option (option_map (λ (l : Ident). l.text) o) ns
label_named None is ns h = h
label_named (Some l) is ns h = ap (λ ns. l.text ∷ ns) h

assertions_named : (as' : List t.Assertion) → names_of (filter_map (λ (a : t.Assertion). a.label) as') ≡ filter_map (λ (a : t.Assertion). option_map (λ (l : Ident). l.text) a.label) as'
assertions_named [] = refl
assertions_named (a ∷ as') =
    label_named a.label (filter_map (λ (a : t.Assertion). a.label) as') (filter_map (λ (a : t.Assertion). option_map (λ (l : Ident). l.text) a.label) as') (assertions_named as')

labels_added : (i : Interface) (ls : List Name) → declared_names (with_labels i ls).declared ≡ declared_names i.declared ++ ls
labels_added i [] = sym (append-nil (declared_names i.declared))
labels_added i (l ∷ ls) = names_append i.declared (labelled (l ∷ ls)) ∙ ap (λ ns. declared_names i.declared ++ ns) (names_labelled (l ∷ ls))

-- ---- entities and components

pub entity_given : (language : Language) (items : List ContextItem) (e : t.Entity) (architecture : Option Name) → IsKept (broken.entity language items e)
    → IsGiven (are.entity language items e architecture)
unfolding are.entity
entity_given language items e architecture h =
    let labels : List Ident = filter_map (λ (a : t.Assertion). a.label) (all_of e.statements) in
    let k = parts _ _ h in
    let l = parts _ _ k.1 in
    let c = context_given items (no_context language) k.0 in
    let sight : Sight = sight_of c.value [] in
    let m = parts (broken.interface sight e.generics e.ports) (broken.assertions sight e)
    (of_given (λ c. broken.interface (sight_of c []) e.generics e.ports ▸ broken.assertions (sight_of c []) e) (context (no_context language) items) c.value c.is l.0) in
    let i = interface_given sight e.generics e.ports refl m.0 in
    let standing = of_given (λ i. declarations.standing_twice i.declared labels) (are.interface sight e.generics e.ports) i.value i.is m.1 in
    let distinct : are_distinct (declared_names i.value.declared ++ assertion_labels e.statements) ≡ true =
    ap (λ ns. are_distinct (declared_names i.value.declared ++ ns)) (sym (assertions_named (all_of e.statements)))
    ∙ once_distinct (declared_names i.value.declared) labels (own_distinct sight e.generics e.ports i.value i.is) standing in
    bound (context (no_context language) items) _ c.value c.is
    (bound (are.interface sight e.generics e.ports) _ i.value i.is
    (ruled (are_distinct (declared_names i.value.declared ++ assertion_labels e.statements)) _ distinct
    (ruled (ends e.name.text e.end_name) _ (end_name_given e.name e.end_name l.1) (this _))))

-- the names of an entity's region are distinct
pub interface_distinct : (language : Language) (items : List ContextItem) (e : t.Entity) (architecture : Option Name) (v : EntityView) → are.entity language items e architecture ≡ Some v
    → are_distinct (declared_names v.interface.declared) ≡ true
interface_distinct language items e architecture v h =
    let q = entity_parts language items e architecture v h in
    ap (λ (v : EntityView). are_distinct (declared_names v.interface.declared)) (sym q.is)
    ∙ ap are_distinct (labels_added q.own.value (assertion_labels e.statements)) ∙ q.distinct

component_is : (entities : List EntityView) (sight : Sight) (c : t.Component)
    → IsKept (lacking Undeclared c.name.at (entity_named entities c.name.text) ▸ where_given (entity_named entities c.name.text) (same_text c)
    ▸ broken.interface (record sight { region = []; enclosing = sight.region ++ sight.enclosing }) c.generics c.ports ▸ end_name c.name c.end_name)
    → IsGiven (are.component entities sight c)
unfolding are.component
component_is entities sight c h =
    let inner : Sight = record sight { region = []; enclosing = sight.region ++ sight.enclosing } in
    let k = parts _ _ h in
    let l = parts _ _ k.1 in
    let m = parts _ _ l.1 in
    let e = given Undeclared c.name.at (entity_named entities c.name.text) k.0 in
    let same = holds WrongKind c.name.at (same_generics c.generics e.value.1.generic_text && same_ports c.ports e.value.1.port_text)
    (of_given (same_text c) (entity_named entities c.name.text) e.value e.is l.0) in
    let i = interface_given inner c.generics c.ports refl m.0 in
    bound (entity_named entities c.name.text) _ e.value e.is
    (ruled (same_generics c.generics e.value.1.generic_text && same_ports c.ports e.value.1.port_text) _ same
    (bound (are.interface inner c.generics c.ports) _ i.value i.is
    (ruled (ends c.name.text c.end_name) _ (end_name_given c.name c.end_name m.1) (this _))))

pub component_given : (entities : List EntityView) (sight : Sight) (c : t.Component) → are_distinct (declared_names sight.region) ≡ true
    → IsKept (broken.component entities sight c) → IsApart sight.region (are.component entities sight c)
component_given entities sight c distinct h =
    let k = parts _ _ h in
    stands_apart sight.region (are.component entities sight c) (c.name ∷ []) (component_is entities sight c k.1) (of_component entities sight c) distinct k.0
