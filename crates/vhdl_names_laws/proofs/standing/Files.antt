-- The bytes of the units of a file are those of pieces of the file.
use Rattle.std.proofs.Common.{◌≡◌, ℕ, List, [], ◌∷◌, ◌++◌, Option, Some, None, refl, subst}
use Rattle.std.specs.List.{AllByRecursion, flat_map, cons_option}
use Rattle.std.specs.Str.{bytes_eq}
use Rattle.vhdl_lexer.specs.declared.language.Language.{Language}
use Rattle.vhdl_tree.specs.Tree as t
use Rattle.vhdl_tree.specs.Tree.{File, DesignUnit, LibraryUnit, ContextItem}
use Rattle.vhdl_tree.specs.Pieces.{spell_option, spell_each}
use Rattle.vhdl_tree.specs.grammar.Declarations.{spell_generic, spell_generics, spell_port, spell_ports, spell_declaration}
use Rattle.vhdl_tree.specs.grammar.Concurrent.{spell_concurrent}
use Rattle.vhdl_tree.specs.grammar.Units.{spell_context, spell_entity, spell_architecture, spell_library_unit, spell_unit, spell_file}
use Rattle.vhdl_names_rules.specs.units.Units as u
use Rattle.vhdl_names_rules.specs.units.Units.{Units}
use Rattle.vhdl_names_rules.specs.units.Bytes.{if_any_bytes, generic_bytes, port_bytes, declaration_bytes, concurrents_bytes, architecture_bytes, entity_bytes, units_bytes}
use Rattle.vhdl_names_rules.specs.Rules.{each, if_any, all_of}
use Rattle.vhdl_names_rules.specs.Visibility.{Name, Sight, are_distinct, with_declared}
use Rattle.vhdl_names_rules.specs.Packages.{sight_of}
use Rattle.vhdl_names_rules.specs.Declarations.{in_order, generic, port}
use Rattle.vhdl_names_rules.specs.Interfaces.{Interface, EntityView, declared_names, interface, assertion_labels, with_labels, entity}
use Rattle.vhdl_names_rules.specs.Files.{as_entity, as_architecture, entities_of, architectures_of, architecture_of, viewed, declaration, architecture, unit, units_of}
use Rattle.vhdl_names_rules.proofs.laws.Rules.{comes, kept}
use Rattle.vhdl_names_rules.proofs.laws.Parts.{region_of, entity_parts, architecture_parts, file_parts}
use Rattle.vhdl_names_laws.proofs.Statics.{some_same}
use Rattle.vhdl_names_laws.proofs.Units.{found}
use Rattle.vhdl_names_laws.proofs.Words.{all_in_order}
use Rattle.vhdl_names_laws.proofs.Labels.{spelled_alike}
use Rattle.vhdl_names_laws.proofs.placed.Told.{Stand, first, behind, each_stands}
use Rattle.vhdl_names_laws.proofs.placed.Interfaces.{generics_stand, ports_stand}
use Rattle.vhdl_names_laws.proofs.standing.Holding.{Hold, hold_both, hold_each}
use Rattle.vhdl_names_laws.proofs.standing.Declarations.{EachHolds, generic_holds, port_holds, declaration_holds}
use Rattle.vhdl_names_laws.proofs.standing.Concurrent.{concurrents_hold}

-- ---- architectures

architecture_holds : (P : ℕ → Type 0) (entities : List EntityView) (e : EntityView) (items : List ContextItem) (a : t.Architecture) (x : u.Architecture) → Stand P (spell_architecture a)
    → architecture entities e items a ≡ Some x → Hold P (architecture_bytes x)
architecture_holds P entities e items a x h q =
    let inner = h.1.1.1.1.1 in
    let begun = (behind P (spell_each spell_declaration a.declarations) _ inner).1 in
    let body_stands = subst (Stand P) (spelled_alike a.statements) (first P (spell_each spell_concurrent a.statements) _ begun) in
    let p = architecture_parts entities e items a x q in
    subst (λ (x : u.Architecture). Hold P (architecture_bytes x)) p.is
    (hold_both P (flat_map declaration_bytes p.own.value.analysed) (concurrents_bytes p.body.value)
    (hold_each P declaration_bytes p.own.value.analysed
    (all_in_order with_declared (declaration entities) (λ (d : t.Declaration). Stand P (spell_declaration d)) (λ (d : u.Declaration). Hold P (declaration_bytes d))
    (λ sight d y w e. declaration_holds P entities sight d y w e) a.declarations (sight_of p.seen.value e.interface.declared) p.own.value
    (each_stands P spell_declaration a.declarations (first P (spell_each spell_declaration a.declarations) _ inner)) p.own.is))
    (concurrents_hold (t.concurrents_of a.statements) P entities (sight_of p.seen.value (region_of e p.own.value.declared a)) p.body.value body_stands p.body.is))

-- ---- entities

-- an entity as it is seen
record ViewHolds (P : ℕ → Type 0) (e : EntityView) : Type 0 where
  name : P e.at
  generics : EachHolds P generic_bytes e.interface.generics
  ports : EachHolds P port_bytes e.interface.ports

record InterfaceHolds (P : ℕ → Type 0) (x : Interface) : Type 0 where
  generics : EachHolds P generic_bytes x.generics
  ports : EachHolds P port_bytes x.ports

interface_holds : (P : ℕ → Type 0) (sight : Sight) (gs : Option (List t.Generic)) (ps : Option (List t.Port)) (x : Interface) → Stand P (spell_option spell_generics gs)
    → Stand P (spell_option spell_ports ps) → interface sight gs ps ≡ Some x → InterfaceHolds P x
unfolding interface
interface_holds P sight gs ps x h w q =
    let g = comes (in_order with_declared generic sight (all_of gs)) _ x q in
    let d = comes (in_order with_declared port (with_declared sight g.value.declared) (all_of ps)) _ x g.rest in
    let k = kept (are_distinct (declared_names (g.value.declared ++ d.value.declared))) _ x d.rest in
    subst (InterfaceHolds P) (some_same _ x k.1) (record {
      generics =
          all_in_order with_declared generic (λ (g : t.Generic). Stand P (spell_generic g)) (λ (g : u.Generic). Hold P (generic_bytes g))
          (λ sight g y v e. generic_holds P sight g y v e) (all_of gs) sight g.value (generics_stand P gs h) g.is;
      ports =
          all_in_order with_declared port (λ (p : t.Port). Stand P (spell_port p)) (λ (p : u.Port). Hold P (port_bytes p))
          (λ sight p y v e. port_holds P sight p y v e) (all_of ps) (with_declared sight g.value.declared) d.value (ports_stand P ps w) d.is;
    })

labels_hold : (P : ℕ → Type 0) (x : Interface) (ns : List Name) → InterfaceHolds P x → InterfaceHolds P (with_labels x ns)
labels_hold P x [] h = h
labels_hold P x (n ∷ ns) h = record { generics = h.generics; ports = h.ports }

entity_holds : (P : ℕ → Type 0) (language : Language) (items : List ContextItem) (e : t.Entity) (a : Option Name) (v : EntityView) → Stand P (spell_entity e) → entity language items e a ≡ Some v → ViewHolds P v
entity_holds P language items e a v h q =
    let ports = behind P (spell_option spell_generics e.generics) _ h.1.1.1 in
    let p = entity_parts language items e a v q in
    let f =
    labels_hold P p.own.value (assertion_labels e.statements) (interface_holds P (sight_of p.seen.value []) e.generics e.ports p.own.value (first P (spell_option spell_generics e.generics) _ h.1.1.1) (first P (spell_option spell_ports e.ports) _ ports) p.own.is) in
    subst (ViewHolds P) p.is (record { name = h.1.0; generics = f.generics; ports = f.ports })

-- ---- the units of a file, by what they are

abbrev EntityStands : (ℕ → Type 0) → List ContextItem × t.Entity → Type 0
EntityStands P e = Stand P (spell_entity e.1)

abbrev ArchitectureStands : (ℕ → Type 0) → List ContextItem × t.Architecture → Type 0
ArchitectureStands P a = Stand P (spell_architecture a.1)

entity_at : (P : ℕ → Type 0) (items : List ContextItem) (x : LibraryUnit) (es : List (List ContextItem × t.Entity)) → Stand P (spell_library_unit x) → AllByRecursion (EntityStands P) es
    → AllByRecursion (EntityStands P) (cons_option (as_entity (record { context = items; unit = x })) es)
entity_at P items (t.LibraryUnit.entity e) es h g = (h, g)
entity_at P items (t.LibraryUnit.architecture a) es h g = g

architecture_at : (P : ℕ → Type 0) (items : List ContextItem) (x : LibraryUnit) (as' : List (List ContextItem × t.Architecture)) → Stand P (spell_library_unit x)
    → AllByRecursion (ArchitectureStands P) as' → AllByRecursion (ArchitectureStands P) (cons_option (as_architecture (record { context = items; unit = x })) as')
architecture_at P items (t.LibraryUnit.entity e) as' h g = g
architecture_at P items (t.LibraryUnit.architecture a) as' h g = (h, g)

entities_stand : (P : ℕ → Type 0) (ds : List DesignUnit) → Stand P (spell_each spell_unit ds) → AllByRecursion (EntityStands P) (entities_of ds)
entities_stand P [] h = tt
entities_stand P (d ∷ ds) h =
    entity_at P d.context d.unit (entities_of ds) (behind P (spell_each spell_context d.context) (spell_library_unit d.unit) (first P (spell_unit d) (spell_each spell_unit ds) h))
    (entities_stand P ds (behind P (spell_unit d) (spell_each spell_unit ds) h))

architectures_stand : (P : ℕ → Type 0) (ds : List DesignUnit) → Stand P (spell_each spell_unit ds) → AllByRecursion (ArchitectureStands P) (architectures_of ds)
architectures_stand P [] h = tt
architectures_stand P (d ∷ ds) h =
    architecture_at P d.context d.unit (architectures_of ds) (behind P (spell_each spell_context d.context) (spell_library_unit d.unit) (first P (spell_unit d) (spell_each spell_unit ds) h))
    (architectures_stand P ds (behind P (spell_unit d) (spell_each spell_unit ds) h))

-- what each is of that of which something is
each_from : {A B : Type 0} (f : A → Option B) (Q : A → Type 0) (R : B → Type 0) → ((x : A) (y : B) → Q x → f x ≡ Some y → R y) → (xs : List A) (ys : List B) → AllByRecursion Q xs
    → each f xs ≡ Some ys → AllByRecursion R ys
each_from f Q R is [] ys h q = subst (AllByRecursion R) (some_same [] ys q) tt
each_from f Q R is (x ∷ xs) ys h q =
    let a = comes (f x) _ ys q in
    let b = comes (each f xs) _ ys a.rest in
    subst (AllByRecursion R) (some_same (a.value ∷ b.value) ys b.rest) (is x a.value h.0 a.is, each_from f Q R is xs b.value h.1 b.is)

-- ---- files

unit_holds : (P : ℕ → Type 0) (entities : List EntityView) (ds : List DesignUnit) (e : EntityView) (x : u.Entity) → AllByRecursion (ArchitectureStands P) (architectures_of ds) → ViewHolds P e
    → unit entities ds e ≡ Some x → Hold P (entity_bytes x)
unfolding unit
unit_holds P entities ds e x all h q =
    let a = comes (if_any (λ (p : List ContextItem × t.Architecture). architecture entities e p.0 p.1) (architecture_of e.name ds)) _ x q in
    subst (λ (x : u.Entity). Hold P (entity_bytes x)) (some_same _ x a.rest) (
      h.name,
      hold_both P (flat_map generic_bytes e.interface.generics) (flat_map port_bytes e.interface.ports ++ if_any_bytes architecture_bytes a.value)
          (hold_each P generic_bytes e.interface.generics h.generics)
          (hold_both P (flat_map port_bytes e.interface.ports) (if_any_bytes architecture_bytes a.value) (hold_each P port_bytes e.interface.ports h.ports)
          (go (architecture_of e.name ds) refl a.value a.is)),
    )
  where
    go : (o : Option (List ContextItem × t.Architecture)) → architecture_of e.name ds ≡ o → (y : Option u.Architecture)
        → if_any (λ (p : List ContextItem × t.Architecture). architecture entities e p.0 p.1) o ≡ Some y → Hold P (if_any_bytes architecture_bytes y)
    go None w y g = subst (λ y. Hold P (if_any_bytes architecture_bytes y)) (some_same None y g) tt
    go (Some p) w y g =
        let b = comes (architecture entities e p.0 p.1) _ y g in
        subst (λ y. Hold P (if_any_bytes architecture_bytes y)) (some_same (Some b.value) y b.rest)
        (architecture_holds P entities e p.0 p.1 b.value
        (found (ArchitectureStands P) (λ (a : List ContextItem × t.Architecture). bytes_eq e.name a.1.entity.text) (architectures_of ds) p all w) b.is)

pub units_hold : (P : ℕ → Type 0) (language : Language) (f : File) (units : Units) → Stand P (spell_file f) → units_of language f ≡ Some units → Hold P (units_bytes units)
units_hold P language f units h q =
    let p = file_parts language f units q in
    hold_each P entity_bytes units
    (each_from (unit p.views.value f.units) (ViewHolds P) (λ (x : u.Entity). Hold P (entity_bytes x))
    (λ e x w g. unit_holds P p.views.value f.units e x (architectures_stand P f.units h) w g) p.views.value units
    (each_from (viewed language f.units) (EntityStands P) (ViewHolds P) (λ e y w g. entity_holds P language e.0 e.1 _ y w g) (entities_of f.units) p.views.value (entities_stand P f.units h) p.views.is) p.gives)
