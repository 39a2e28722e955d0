-- In each region no name stands twice.
use Rattle.std.proofs.Common.{◌≡◌, List, [], ◌∷◌, ◌++◌, Option, Some, refl, ap, sym, ◌∙◌}
use Rattle.std.specs.List.{flat_map}
use Rattle.vhdl_tree.specs.Tree as t
use Rattle.vhdl_names_rules.specs.units.Units as u
use Rattle.vhdl_names_rules.specs.Rules.{◌>>=◌, all_of}
use Rattle.vhdl_names_rules.specs.Visibility.{ends, Name, Declared, names_of, are_distinct, Sight, with_declared, with_variables, declared_here, Declares, followed_by}
use Rattle.vhdl_names_rules.specs.Packages.{sight_of}
use Rattle.vhdl_names_rules.specs.Declarations.{in_order, within_variables, generic, port, process_declaration}
use Rattle.vhdl_names_rules.specs.Interfaces.{Interface, EntityView, declared_names, interface}
use Rattle.vhdl_names_rules.specs.Concurrent.{concurrent_labels, concurrent}
use Rattle.vhdl_names_rules.specs.Statements.{statement_labels}
use Rattle.vhdl_names_rules.specs.Files.{declaration, labelled}
use Rattle.vhdl_names_rules.specs.laws.Regions.{interface_names, InterfaceNamesStandOnce, names_in, process_names_in, ArchitectureNamesStandOnce, ProcessNamesStandOnce, GenerateLabelsStandOnce}
use Rattle.vhdl_names_rules.proofs.laws.Rules.{comes, kept, some_is}
use Rattle.vhdl_names_rules.proofs.laws.Parts.{region_of, process_parts, architecture_parts}
use Rattle.vhdl_names_rules.proofs.laws.Once.{stand_once}
use Rattle.vhdl_names_rules.proofs.kept.Named.{HasNames, of_same, of_generic, of_port, of_signals, of_variables, of_constants_in, of_constants, of_subtype_in, of_subtype, of_enumeration, of_component}

-- ---- names of declarations

names-append : (ds es : List Declared) → declared_names (ds ++ es) ≡ declared_names ds ++ declared_names es
names-append [] es = refl
names-append (d ∷ ds) es = ap (λ ns. d.name ∷ ns) (names-append ds es)

names-labelled : (ns : List Name) → declared_names (labelled ns) ≡ ns
names-labelled [] = refl
names-labelled (n ∷ ns) = ap (λ ns. n ∷ ns) (names-labelled ns)

names_in_order : {A B : Type 0} (with_more : Sight → List Declared → Sight) (declares : Sight → A → Option (Declares B)) (text : A → List Name)
    → ((sight : Sight) (a : A) (x : Declares B) → declares sight a ≡ Some x → HasNames x (text a))
    → (as' : List A) (sight : Sight) (x : Declares B) → in_order with_more declares sight as' ≡ Some x → HasNames x (flat_map text as')
names_in_order with_more declares text one [] sight x e = of_same _ x [] e refl
names_in_order with_more declares text one (a ∷ as') sight x e =
    let c = comes (declares sight a) (λ x. in_order with_more declares (with_more sight x.declared) as' >>= λ xs. Some (followed_by x xs)) x e in
    let d = comes (in_order with_more declares (with_more sight c.value.declared) as') (λ xs. Some (followed_by c.value xs)) x c.rest in
    of_same (followed_by c.value d.value) x (text a ++ flat_map text as') d.rest
    (names-append c.value.declared d.value.declared
    ∙ ap (λ ns. ns ++ declared_names d.value.declared) (one sight a c.value c.is)
    ∙ ap (λ ns. text a ++ ns) (names_in_order with_more declares text one as' (with_more sight c.value.declared) d.value d.is))

of_declaration : (entities : List EntityView) (sight : Sight) (d : t.Declaration) (x : Declares u.Declaration)
    → declaration entities sight d ≡ Some x → HasNames x (names_in d)
of_declaration entities sight (t.signals d) x e = of_signals sight d x e
of_declaration entities sight (t.constants d) x e = of_constants sight d x e
of_declaration entities sight (t.enumeration d) x e = of_enumeration sight.region d x e
of_declaration entities sight (t.component c) x e = of_component entities sight c x e
of_declaration entities sight (t.subtype_of d) x e = of_subtype sight d x e
of_declaration entities sight (t.attribute_of text) x e = of_same _ x [] e refl

of_process_declaration : (sight : Sight) (d : t.ProcessDeclaration) (x : Declares u.Declaration) → process_declaration sight d ≡ Some x → HasNames x (process_names_in d)
of_process_declaration sight (t.variables d) x e = of_variables sight d x e
of_process_declaration sight (t.process_constants d) x e = of_constants_in (within_variables sight d.names) (declared_here sight) d x e
of_process_declaration sight (t.process_enumeration d) x e = of_enumeration (declared_here sight) d x e
of_process_declaration sight (t.process_subtype d) x e = of_subtype_in (within_variables sight (d.name ∷ [])) (declared_here sight) d x e

-- ---- regions

pub interface_names_stand_once : InterfaceNamesStandOnce
unfolding interface
interface_names_stand_once sight gs ps i e =
    let c = comes (in_order with_declared generic sight (all_of gs)) _ i e in
    let d = comes (in_order with_declared port (with_declared sight c.value.declared) (all_of ps)) _ i c.rest in
    let k = kept (are_distinct (declared_names (c.value.declared ++ d.value.declared))) _ i d.rest in
    let names : declared_names (c.value.declared ++ d.value.declared) ≡ interface_names gs ps =
    names-append c.value.declared d.value.declared
    ∙ ap (λ ns. ns ++ declared_names d.value.declared) (names_in_order with_declared generic (λ (g : t.Generic). names_of g.names) of_generic (all_of gs) sight c.value c.is)
    ∙ ap (λ ns. flat_map (λ (g : t.Generic). names_of g.names) (all_of gs) ++ ns) (names_in_order with_declared port (λ (p : t.Port). names_of p.names) of_port (all_of ps) (with_declared sight c.value.declared) d.value d.is) in
    (ap (λ (i : Interface). declared_names i.declared) (sym (some_is _ i k.1)) ∙ names, stand_once (interface_names gs ps) (ap are_distinct (sym names) ∙ k.0))

pub architecture_names_stand_once : ArchitectureNamesStandOnce
architecture_names_stand_once entities e items a x h =
    let p = architecture_parts entities e items a x h in
    let labels = concurrent_labels (t.concurrents_of a.statements) in
    let names : declared_names (region_of e p.own.value.declared a) ≡ declared_names e.interface.declared ++ (flat_map names_in a.declarations ++ labels) =
    names-append e.interface.declared (p.own.value.declared ++ labelled labels)
    ∙ ap (λ ns. declared_names e.interface.declared ++ ns)
    (names-append p.own.value.declared (labelled labels)
    ∙ ap (λ ns. ns ++ declared_names (labelled labels)) (names_in_order with_declared (declaration entities) names_in (of_declaration entities) a.declarations (sight_of p.seen.value e.interface.declared) p.own.value p.own.is)
    ∙ ap (λ ns. flat_map names_in a.declarations ++ ns) (names-labelled labels)) in
    stand_once (declared_names e.interface.declared ++ (flat_map names_in a.declarations ++ labels)) (ap are_distinct (sym names) ∙ p.distinct)

pub process_names_stand_once : ProcessNamesStandOnce
process_names_stand_once sight label p x e =
    let d = process_parts sight label p x e in
    let names = names_in_order with_variables process_declaration process_names_in of_process_declaration p.declarations sight d.own.value d.own.is in (
      stand_once (flat_map process_names_in p.declarations) (ap are_distinct (sym names) ∙ d.own_distinct),
      stand_once (statement_labels (t.statements_of p.statements)) d.labels_distinct,
    )

pub generate_labels_stand_once : GenerateLabelsStandOnce
unfolding concurrent
generate_labels_stand_once entities sight label at scheme word cs end x e =
    let h = kept (ends label.text end) _ x e in
    let k = kept (are_distinct (concurrent_labels cs)) _ x h.1 in
    stand_once (concurrent_labels cs) k.0
