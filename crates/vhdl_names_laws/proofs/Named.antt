-- The names and labels of units are identifiers of the file.
use Rattle.std.proofs.Common.{◌≡◌, true, ◌&&◌, List, [], ◌∷◌, ◌++◌, map, Option, Some, None, refl, ap, sym, ◌∙◌, subst}
use Rattle.std.specs.List.{list_all, cons_option, AllByRecursion}
use Rattle.std.specs.Str.{bytes_eq}
use Rattle.std.proofs.lemmas.Bool.{and_from}
use Rattle.vhdl_lexer.specs.declared.token.TokenKind.TheVariants as k
use Rattle.vhdl_lexer.specs.declared.language.Language.{Language}
use Rattle.vhdl_tree.specs.Tree as t
use Rattle.vhdl_tree.specs.Tree.{File, DesignUnit, LibraryUnit, ContextItem}
use Rattle.vhdl_tree.specs.Pieces.{spell_word, spell_idents, spell_option, spell_each, spell_list}
use Rattle.vhdl_tree.specs.grammar.Concurrent.{spell_concurrent}
use Rattle.vhdl_tree.specs.grammar.Declarations.{spell_generics, spell_port, spell_ports, spell_declaration}
use Rattle.vhdl_tree.specs.grammar.Units.{spell_context, spell_entity, spell_architecture, spell_library_unit, spell_unit}
use Rattle.vhdl_names_rules.specs.units.Units as u
use Rattle.vhdl_names_rules.specs.units.Units.{Units}
use Rattle.vhdl_names_rules.specs.Rules.{each, if_any, all_of}
use Rattle.vhdl_names_rules.specs.Visibility.{Name, are_distinct, Sight, with_declared}
use Rattle.vhdl_names_rules.specs.Packages.{sight_of}
use Rattle.vhdl_names_rules.specs.Declarations.{in_order, generic, port}
use Rattle.vhdl_names_rules.specs.Interfaces.{Interface, EntityView, declared_names, interface, assertion_labels, with_labels, entity}
use Rattle.vhdl_names_rules.specs.Files.{as_entity, as_architecture, entities_of, architectures_of, architecture_of, viewed, declaration, architecture, unit, units_of}
use Rattle.vhdl_names_rules.specs.sound.Named.{has_text, objects_are_named, declaration_is_named, concurrents_are_named, architecture_is_named, entity_is_named, are_named}
use Rattle.vhdl_names_laws.specs.Words.{small, AreWords, HasWords}
use Rattle.vhdl_names_laws.specs.Laws.{UnitsAreNamed, SmallPortsAreDistinct}
use Rattle.vhdl_names_laws.proofs.Statics.{some_same}
use Rattle.vhdl_names_laws.proofs.Units.{found, ports_distinct}
use Rattle.vhdl_names_rules.proofs.laws.Rules.{comes, kept}
use Rattle.vhdl_names_rules.proofs.laws.Parts.{region_of, entity_parts, architecture_parts, file_parts}
use Rattle.vhdl_names_laws.proofs.Words.{IsNamed, NamesAreWords, PortIsWord, all_in_order, all_true, declaration_named, each_piece, idents_are, left, list_piece, port_named, port_objects_named, right}
use Rattle.vhdl_names_laws.proofs.Labels.{concurrents_named, spelled_alike}

-- ---- units

architecture_named : (entities : List EntityView) (e : EntityView) (items : List ContextItem) (a : t.Architecture) (x : u.Architecture) → AreWords (spell_architecture a)
    → architecture entities e items a ≡ Some x → architecture_is_named (Some x) ≡ true
architecture_named entities e items a x h q =
    let p = architecture_parts entities e items a x q in
    let inner = h.1.1.1.1.1 in
    let behind = right (spell_each spell_declaration a.declarations) _ inner in
    subst (λ (x : u.Architecture). architecture_is_named (Some x) ≡ true) p.is
    (and_from (list_all declaration_is_named p.own.value.analysed) (concurrents_are_named p.body.value)
    (all_true declaration_is_named p.own.value.analysed
    (all_in_order with_declared (declaration entities) (λ (d : t.Declaration). AreWords (spell_declaration d)) IsNamed (λ sight d y w e. declaration_named entities sight d y w e)
    a.declarations (sight_of p.seen.value e.interface.declared) p.own.value
    (each_piece spell_declaration (λ (d : t.Declaration). AreWords (spell_declaration d)) (λ d w. w) a.declarations (left (spell_each spell_declaration a.declarations) _ inner)) p.own.is))
    (concurrents_named (t.concurrents_of a.statements) entities (sight_of p.seen.value (region_of e p.own.value.declared a)) p.body.value
    (subst AreWords (spelled_alike a.statements) (left (spell_each spell_concurrent a.statements) _ behind.1)) p.body.is))

-- an entity as it is seen
record ViewIsNamed (e : EntityView) : Type 0 where
  name : has_text e.name ≡ true
  ports : AllByRecursion PortIsWord e.interface.ports

ports_words : (ps : Option (List t.Port)) → AreWords (spell_option spell_ports ps) → AllByRecursion (λ (d : t.Port). NamesAreWords d.names) (all_of ps)
ports_words None h = tt
ports_words (Some ps) h =
    list_piece k.Semicolon spell_port (λ (d : t.Port). NamesAreWords d.names)
    (λ d g. idents_are d.names (left (spell_idents d.names) _ (right (spell_word k.Signal d.signal_word) _ g))) ps (left (spell_list k.Semicolon spell_port ps) _ h.1.1)

interface_named : (sight : Sight) (gs : Option (List t.Generic)) (ps : Option (List t.Port)) (x : Interface) → AllByRecursion (λ (d : t.Port). NamesAreWords d.names) (all_of ps) → interface sight gs ps ≡ Some x
    → AllByRecursion PortIsWord x.ports
unfolding interface
interface_named sight gs ps x h q =
    let g = comes (in_order with_declared generic sight (all_of gs)) _ x q in
    let d = comes (in_order with_declared port (with_declared sight g.value.declared) (all_of ps)) _ x g.rest in
    let w = kept (are_distinct (declared_names (g.value.declared ++ d.value.declared))) _ x d.rest in
    subst (λ (x : Interface). AllByRecursion PortIsWord x.ports) (some_same _ x w.1)
    (all_in_order with_declared port (λ (d : t.Port). NamesAreWords d.names) PortIsWord (λ sight d y g e. port_named sight d y g e) (all_of ps) (with_declared sight g.value.declared) d.value h d.is)

labelled_ports : (x : Interface) (ns : List Name) → (with_labels x ns).ports ≡ x.ports
labelled_ports x [] = refl
labelled_ports x (n ∷ ns) = refl

entity_named_is : (language : Language) (items : List ContextItem) (e : t.Entity) (a : Option Name) (v : EntityView) → AreWords (spell_entity e) → entity language items e a ≡ Some v → ViewIsNamed v
entity_named_is language items e a v h q =
    let p = entity_parts language items e a v q in
    let behind = right (spell_option spell_generics e.generics) _ h.1.1.1 in
    subst ViewIsNamed p.is
    (record {
      name = h.1.0.some;
      ports =
          subst (AllByRecursion PortIsWord) (sym (labelled_ports p.own.value (assertion_labels e.statements)))
          (interface_named (sight_of p.seen.value []) e.generics e.ports p.own.value (ports_words e.ports (left (spell_option spell_ports e.ports) _ behind)) p.own.is);
    })

-- the units of a file, by what they are
entity_at : (items : List ContextItem) (x : LibraryUnit) (es : List (List ContextItem × t.Entity)) → AreWords (spell_library_unit x) → AllByRecursion (λ (e : List ContextItem × t.Entity). AreWords (spell_entity e.1)) es
    → AllByRecursion (λ (e : List ContextItem × t.Entity). AreWords (spell_entity e.1)) (cons_option (as_entity (record { context = items; unit = x })) es)
entity_at items (t.LibraryUnit.entity e) es h g = (h, g)
entity_at items (t.LibraryUnit.architecture a) es h g = g

architecture_words_at : (items : List ContextItem) (x : LibraryUnit) (as' : List (List ContextItem × t.Architecture)) → AreWords (spell_library_unit x)
    → AllByRecursion (λ (a : List ContextItem × t.Architecture). AreWords (spell_architecture a.1)) as'
    → AllByRecursion (λ (a : List ContextItem × t.Architecture). AreWords (spell_architecture a.1)) (cons_option (as_architecture (record { context = items; unit = x })) as')
architecture_words_at items (t.LibraryUnit.entity e) as' h g = g
architecture_words_at items (t.LibraryUnit.architecture a) as' h g = (h, g)

entities_words : (ds : List DesignUnit) → AreWords (spell_each spell_unit ds) → AllByRecursion (λ (e : List ContextItem × t.Entity). AreWords (spell_entity e.1)) (entities_of ds)
entities_words [] h = tt
entities_words (d ∷ ds) h =
    entity_at d.context d.unit (entities_of ds) (right (spell_each spell_context d.context) (spell_library_unit d.unit) (left (spell_unit d) (spell_each spell_unit ds) h))
    (entities_words ds (right (spell_unit d) (spell_each spell_unit ds) h))

architectures_words : (ds : List DesignUnit) → AreWords (spell_each spell_unit ds) → AllByRecursion (λ (a : List ContextItem × t.Architecture). AreWords (spell_architecture a.1)) (architectures_of ds)
architectures_words [] h = tt
architectures_words (d ∷ ds) h =
    architecture_words_at d.context d.unit (architectures_of ds) (right (spell_each spell_context d.context) (spell_library_unit d.unit) (left (spell_unit d) (spell_each spell_unit ds) h))
    (architectures_words ds (right (spell_unit d) (spell_each spell_unit ds) h))

-- what each is of that of which something is
each_from : {A B : Type 0} (f : A → Option B) (P : A → Type 0) (Q : B → Type 0) → ((x : A) (y : B) → P x → f x ≡ Some y → Q y) → (xs : List A) (ys : List B) → AllByRecursion P xs → each f xs ≡ Some ys
    → AllByRecursion Q ys
each_from f P Q is [] ys h q = subst (AllByRecursion Q) (some_same [] ys q) tt
each_from f P Q is (x ∷ xs) ys h q =
    let a = comes (f x) _ ys q in
    let b = comes (each f xs) _ ys a.rest in
    subst (AllByRecursion Q) (some_same (a.value ∷ b.value) ys b.rest) (is x a.value h.0 a.is, each_from f P Q is xs b.value h.1 b.is)

-- a unit with its ports
record UnitIsNamed (x : u.Entity) : Type 0 where
  named : entity_is_named x ≡ true
  ports : AllByRecursion PortIsWord x.ports

unit_named : (entities : List EntityView) (ds : List DesignUnit) (e : EntityView) (x : u.Entity) → AreWords (spell_each spell_unit ds) → ViewIsNamed e → unit entities ds e ≡ Some x → UnitIsNamed x
unfolding unit
unit_named entities ds e x words h q =
    let a = comes (if_any (λ (p : List ContextItem × t.Architecture). architecture entities e p.0 p.1) (architecture_of e.name ds)) _ x q in
    subst UnitIsNamed (some_same _ x a.rest) (record {
      named =
          and_from (has_text e.name && objects_are_named (map (λ (p : u.Port). p.object) e.interface.ports)) (architecture_is_named a.value)
          (and_from (has_text e.name) (objects_are_named (map (λ (p : u.Port). p.object) e.interface.ports)) h.name (port_objects_named e.interface.ports h.ports))
          (go (architecture_of e.name ds) refl a.value a.is);
      ports = h.ports;
    })
  where
    go : (o : Option (List ContextItem × t.Architecture)) → architecture_of e.name ds ≡ o → (y : Option u.Architecture)
        → if_any (λ (p : List ContextItem × t.Architecture). architecture entities e p.0 p.1) o ≡ Some y → architecture_is_named y ≡ true
    go None w y g = subst (λ y. architecture_is_named y ≡ true) (some_same None y g) refl
    go (Some p) w y g =
        let b = comes (architecture entities e p.0 p.1) _ y g in
        subst (λ y. architecture_is_named y ≡ true) (some_same (Some b.value) y b.rest)
        (architecture_named entities e p.0 p.1 b.value
        (found (λ (a : List ContextItem × t.Architecture). AreWords (spell_architecture a.1)) (λ (a : List ContextItem × t.Architecture). bytes_eq e.name a.1.entity.text) (architectures_of ds) p (architectures_words ds words) w) b.is)

units_named : (language : Language) (f : File) (units : Units) → HasWords f → units_of language f ≡ Some units → AllByRecursion UnitIsNamed units
units_named language f units words q =
    let p = file_parts language f units q in
    let views = each_from (viewed language f.units) (λ (e : List ContextItem × t.Entity). AreWords (spell_entity e.1)) ViewIsNamed (λ e y w g. entity_named_is language e.0 e.1 _ y w g) (entities_of f.units) p.views.value (entities_words f.units words) p.views.is in
    each_from (unit p.views.value f.units) ViewIsNamed UnitIsNamed (λ e x w g. unit_named p.views.value f.units e x words w g) p.views.value units views p.gives

all_units_named : (units : Units) → AllByRecursion UnitIsNamed units → list_all entity_is_named units ≡ true
all_units_named [] h = refl
all_units_named (x ∷ units) h = and_from (entity_is_named x) (list_all entity_is_named units) h.0.named (all_units_named units h.1)

pub units_are_named : UnitsAreNamed
unfolding are_named
units_are_named language f units words q = all_units_named units (units_named language f units words q)

-- ---- names of ports in small letters

small_names : (ps : List u.Port) → AllByRecursion PortIsWord ps → map (λ (p : u.Port). p.object.name) ps ≡ map (λ (p : u.Port). small p.object.name) ps
small_names [] h = refl
small_names (p ∷ ps) h = ap (λ n. n ∷ map (λ (p : u.Port). p.object.name) ps) (sym h.0.is_small) ∙ ap (λ ns. small p.object.name ∷ ns) (small_names ps h.1)

small_distinct : (units : Units) → AllByRecursion UnitIsNamed units → list_all (λ (x : u.Entity). are_distinct (map (λ (p : u.Port). p.object.name) x.ports)) units ≡ true
    → list_all (λ (x : u.Entity). are_distinct (map (λ (p : u.Port). small p.object.name) x.ports)) units ≡ true
small_distinct units h q = same units h ∙ q
  where
    same : (units : Units) → AllByRecursion UnitIsNamed units
        → list_all (λ (x : u.Entity). are_distinct (map (λ (p : u.Port). small p.object.name) x.ports)) units ≡ list_all (λ (x : u.Entity). are_distinct (map (λ (p : u.Port). p.object.name) x.ports)) units
    same [] h = refl
    same (x ∷ units) h =
        ap (λ ns. are_distinct ns && list_all (λ (x : u.Entity). are_distinct (map (λ (p : u.Port). small p.object.name) x.ports)) units) (sym (small_names x.ports h.0.ports))
        ∙ ap (λ b. are_distinct (map (λ (p : u.Port). p.object.name) x.ports) && b) (same units h.1)

pub small_ports_distinct : SmallPortsAreDistinct
small_ports_distinct language f units words q = small_distinct units (units_named language f units words q) (ports_distinct language f units q)
