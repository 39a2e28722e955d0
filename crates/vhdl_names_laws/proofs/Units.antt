-- The units of a file are sound (IEEE 1076-2008, 3.2, 3.3 and clause 13).
use Rattle.std.proofs.Common.{◌≡◌, ℕ, zero, suc, Bool, true, false, ◌&&◌, cond, not, List, [], ◌∷◌, ◌++◌, map, Option, Some, None, refl, ap, sym, ◌∙◌, subst, append_assoc}
use Rattle.std.specs.List.{slice_get, list_all, list_any, filter_map, cons_option, find, AllByRecursion}
use Rattle.std.specs.Str.{bytes_eq}
use Rattle.std.proofs.lemmas.Bool.{and_from}
use Rattle.vhdl_lexer.specs.declared.language.Language.{Language}
use Rattle.vhdl_lexer.specs.declared.language.Language.TheVariants.{Wide}
use Rattle.vhdl_tree.specs.Tree as t
use Rattle.vhdl_tree.specs.Tree.{File, DesignUnit, LibraryUnit, ContextItem}
use Rattle.vhdl_tree.specs.Pieces.{IsEach}
use Rattle.vhdl_tree.specs.grammar.Declarations.{IsDeclarationIn}
use Rattle.vhdl_tree.specs.grammar.Units.{IsArchitectureIn, IsLibraryUnitIn, IsUnitIn}
use Rattle.vhdl_names_rules.specs.units.Units as u
use Rattle.vhdl_names_rules.specs.units.Units.{Units}
use Rattle.vhdl_names_rules.specs.Rules.{each, if_any}
use Rattle.vhdl_names_rules.specs.Visibility.{Sight, are_distinct, with_declared, Declares}
use Rattle.vhdl_names_rules.specs.Packages.{sight_of}
use Rattle.vhdl_names_rules.specs.Subtypes.{object_subtype, form_range, fixed_value, object}
use Rattle.vhdl_names_rules.specs.Declarations.{within, signals}
use Rattle.vhdl_names_rules.specs.Interfaces.{EntityView}
use Rattle.vhdl_names_rules.specs.Instances.{generic_formal, port_formal}
use Rattle.vhdl_names_rules.specs.Concurrent.{concurrent_labels}
use Rattle.vhdl_names_rules.specs.Files.{as_architecture, architectures_of, entities_of, architecture_of, viewed, declaration, labelled, architecture, unit}
use Rattle.vhdl_names_rules.specs.sound.Units.{objects_fit, port_fits, with_generics, generics_fit, is_variable, declaration_fits, with_declaration, declarations_fit, with_declarations, concurrents_fit, nothing_inside, architecture_fits, entity_fits, are_sound}
use Rattle.vhdl_names_laws.specs.Laws.{UnitsAreSound, PortsAreDistinct}
use Rattle.vhdl_names_laws.proofs.Statics.{some_same}
use Rattle.vhdl_names_laws.proofs.InOrder as r
use Rattle.vhdl_names_laws.proofs.Known.{region, IsKnown, known_besides, labels_fit, labels_uncounted}
use Rattle.vhdl_names_laws.proofs.Declarations.{declaration_step}
use Rattle.vhdl_names_laws.proofs.Formals.{AreFormals, AreGenerics}
use Rattle.vhdl_names_laws.proofs.Processes.{declarations_are, added_declarations, Lacks, any_named, each_lacks, constants_lack, subtype_lacks, enumeration_lacks}
use Rattle.vhdl_names_laws.proofs.Instances.{AreUnits}
use Rattle.vhdl_names_laws.proofs.Concurrent.{each_concurrent, concurrents_are}
use Rattle.vhdl_names_laws.proofs.Interfaces.{inside_entity, InterfaceFits, entity_fits_interface}
use Rattle.vhdl_names_rules.proofs.laws.Rules.{comes, made}
use Rattle.vhdl_names_rules.proofs.laws.Parts.{component_parts, region_of, architecture_parts, file_parts}

-- ---- declarations of an architecture

each_declaration : (ds : List t.Declaration) → IsEach (IsDeclarationIn Wide) ds → AllByRecursion (IsDeclarationIn Wide) ds
each_declaration [] h = tt
each_declaration (d ∷ ds) h = (h.0, each_declaration ds h.1)

-- none of them is a variable
no_variable : Lacks is_variable
no_variable = record { integers = λ at s n. refl; truths = λ at x. refl; constants = λ at f x. refl; vectors = λ at x. refl; subtypes = λ at s. refl }

signals_lack : (sight : Sight) (d : t.Signals) (x : Declares u.Declaration) → signals sight d ≡ Some x → list_any is_variable x.analysed ≡ false
unfolding signals
signals_lack sight d x h =
    let s = comes (object_subtype (within sight d.names) d.subtype) _ x h in
    let c = comes (if_any (fixed_value (within sight d.names) s.value.type (form_range s.value.form)) d.default) _ x s.rest in
    subst (λ (x : Declares u.Declaration). list_any is_variable x.analysed ≡ false) (some_same _ x c.rest)
    (any_named is_variable (λ n. u.Declaration.signal (object s.value c.value n)) (λ n. refl) d.names)

declaration_lacks : (entities : List EntityView) (sight : Sight) (d : t.Declaration) (x : Declares u.Declaration) → declaration entities sight d ≡ Some x → list_any is_variable x.analysed ≡ false
declaration_lacks entities sight (t.signals d) x h = signals_lack sight d x h
declaration_lacks entities sight (t.constants d) x h = constants_lack is_variable no_variable (within sight d.names) sight.region d x h
declaration_lacks entities sight (t.enumeration d) x h = enumeration_lacks is_variable no_variable sight.region d x h
declaration_lacks entities sight (t.component c) x h = ap (λ (x : Declares u.Declaration). list_any is_variable x.analysed) (sym (component_parts entities sight c x h).is)
declaration_lacks entities sight (t.subtype_of d) x h = subtype_lacks is_variable no_variable (within sight (d.name ∷ [])) sight.region d x h
declaration_lacks entities sight (t.attribute_of text) x h = ap (λ (x : Declares u.Declaration). list_any is_variable x.analysed) (sym (some_same _ x h))

architecture_is : (units : Units) (entities : List EntityView) (e : EntityView) (items : List ContextItem) (a : t.Architecture) (x : u.Architecture) → AreUnits units entities → InterfaceFits e.interface
    → IsArchitectureIn Wide a → architecture entities e items a ≡ Some x → architecture_fits units (inside_entity e.interface.generics e.interface.ports) (Some x) ≡ true
architecture_is units entities e items a x all f is q =
    let p = architecture_parts entities e items a x q in
    let labels = labelled (concurrent_labels (t.concurrents_of a.statements)) in
    let seen = sight_of p.seen.value e.interface.declared in
    let ds = p.own.value.analysed in
    let around = region_of e p.own.value.declared a in
    let i = inside_entity e.interface.generics e.interface.ports in
    let step =
    r.steps with_declaration declaration_fits with_declared (IsKnown region) region.none region.twice (IsDeclarationIn Wide) (declaration entities) (λ i counts sight d y is h q. declaration_step i counts entities sight d y is h q)
    a.declarations (each_declaration a.declarations is.0) i f.counts seen p.own.value (f.known p.seen.value) p.own.is in
    let j = with_declarations i ds in
    let known : IsKnown region j step.more (sight_of p.seen.value (e.interface.declared ++ p.own.value.declared)) =
    subst (λ j. IsKnown region j step.more (sight_of p.seen.value (e.interface.declared ++ p.own.value.declared))) (added_declarations region ds i) step.after in
    let there : IsKnown region j step.more (sight_of p.seen.value around) =
    subst (λ ds. IsKnown region j step.more (sight_of p.seen.value ds)) (append_assoc e.interface.declared p.own.value.declared labels)
    (known_besides region j step.more (sight_of p.seen.value (e.interface.declared ++ p.own.value.declared)) labels (labels_fit j step.more (concurrent_labels (t.concurrents_of a.statements)))
    (labels_uncounted (concurrent_labels (t.concurrents_of a.statements))) known) in
    subst (λ (x : u.Architecture). architecture_fits units i (Some x) ≡ true) p.is
    (and_from (declarations_fit i ds && not (list_any is_variable ds)) (concurrents_fit units j p.body.value)
    (and_from (declarations_fit i ds) (not (list_any is_variable ds)) (declarations_are region ds i step.fit)
    (ap not (each_lacks is_variable with_declared (declaration entities) (declaration_lacks entities) a.declarations seen p.own.value p.own.is)))
    (concurrents_are (t.concurrents_of a.statements) units entities j step.more (sight_of p.seen.value around) p.body.value (each_concurrent a.statements is.1) all
    (record { inside = there.inside; counted = there.counted; none_in_sight = refl }) p.body.is))

-- ---- the architectures of a file

architecture_at : (items : List ContextItem) (x : LibraryUnit) (as' : List (List ContextItem × t.Architecture)) → IsLibraryUnitIn Wide x → AllByRecursion (λ (a : List ContextItem × t.Architecture). IsArchitectureIn Wide a.1) as'
    → AllByRecursion (λ (a : List ContextItem × t.Architecture). IsArchitectureIn Wide a.1) (cons_option (as_architecture (record { context = items; unit = x })) as')
architecture_at items (t.LibraryUnit.entity e) as' h k = k
architecture_at items (t.LibraryUnit.architecture a) as' h k = (h, k)

architectures_are : (ds : List DesignUnit) → IsEach (IsUnitIn Wide) ds → AllByRecursion (λ (a : List ContextItem × t.Architecture). IsArchitectureIn Wide a.1) (architectures_of ds)
architectures_are [] h = tt
architectures_are (d ∷ ds) h = architecture_at d.context d.unit (architectures_of ds) h.0.1 (architectures_are ds h.1)

pub found : {A : Type 0} (P : A → Type 0) (test : A → Bool) (xs : List A) (x : A) → AllByRecursion P xs → find test xs ≡ Some x → P x
found P test [] x h q = absurd cc
found P test (y ∷ ys) x h q = go (test y) q (found P test ys x h.1)
  where
    go : (b : Bool) → cond b (Some y) (find test ys) ≡ Some x → (find test ys ≡ Some x → P x) → P x
    go true q more = subst P (some_same y x q) h.0
    go false q more = more q

-- ---- units

-- what is of each is of each that it gives
each_given : {A B : Type 0} (f : A → Option B) (P : B → Type 0) → ((x : A) (y : B) → f x ≡ Some y → P y) → (xs : List A) (ys : List B) → each f xs ≡ Some ys → AllByRecursion P ys
each_given f P gives [] ys q = subst (AllByRecursion P) (some_same [] ys q) tt
each_given f P gives (x ∷ xs) ys q =
    let a = comes (f x) _ ys q in
    let b = comes (each f xs) _ ys a.rest in
    subst (AllByRecursion P) (some_same (a.value ∷ b.value) ys b.rest) (gives x a.value a.is, each_given f P gives xs b.value b.is)

each_passes : {A B : Type 0} (f : A → Option B) (P : A → Type 0) (test : B → Bool) → ((x : A) (y : B) → P x → f x ≡ Some y → test y ≡ true) → (xs : List A) (ys : List B) → AllByRecursion P xs
    → each f xs ≡ Some ys → list_all test ys ≡ true
each_passes f P test passes [] ys h q = subst (λ ys. list_all test ys ≡ true) (some_same [] ys q) refl
each_passes f P test passes (x ∷ xs) ys h q =
    let a = comes (f x) _ ys q in
    let b = comes (each f xs) _ ys a.rest in
    subst (λ ys. list_all test ys ≡ true) (some_same (a.value ∷ b.value) ys b.rest)
    (and_from (test a.value) (list_all test b.value) (passes x a.value h.0 a.is) (each_passes f P test passes xs b.value h.1 b.is))

at_place : {A : Type 0} (P : A → Type 0) (xs : List A) (k : ℕ) (x : A) → AllByRecursion P xs → slice_get xs k ≡ Some x → P x
at_place P [] k x h q = absurd cc
at_place P (y ∷ ys) zero x h q = subst P (some_same y x q) h.0
at_place P (y ∷ ys) (suc k) x h q = at_place P ys k x h.1 q

-- a unit has its entity's generics and ports
record IsOf (e : EntityView) (x : u.Entity) : Type 0 where
  generics : x.generics ≡ e.interface.generics
  ports : x.ports ≡ e.interface.ports

unit_of : (entities : List EntityView) (ds : List DesignUnit) (e : EntityView) (x : u.Entity) → unit entities ds e ≡ Some x → IsOf e x
unfolding unit
unit_of entities ds e x q =
    let a = comes (if_any (λ (p : List ContextItem × t.Architecture). architecture entities e p.0 p.1) (architecture_of e.name ds)) _ x q in
    subst (IsOf e) (some_same _ x a.rest) (record { generics = refl; ports = refl })

are_units : (ds : List DesignUnit) (entities : List EntityView) (units : Units) → AllByRecursion (λ (e : EntityView). InterfaceFits e.interface) entities → each (unit entities ds) entities ≡ Some units
    → AreUnits units entities
are_units ds entities units h q k e at =
    let c = made (unit entities ds) entities units k e q at in
    let f = at_place (λ (e : EntityView). InterfaceFits e.interface) entities k e h at in
    let o = unit_of entities ds e c.value c.is in
    record {
      unit = c.value;
      at = c.at;
      generics = subst (AreGenerics (filter_map generic_formal e.interface.declared)) (sym o.generics) f.generic_formals;
      ports = subst (AreFormals (filter_map port_formal e.interface.declared)) (sym o.ports) f.formals;
    }

unit_is : (units : Units) (entities : List EntityView) (ds : List DesignUnit) (e : EntityView) (x : u.Entity) → IsEach (IsUnitIn Wide) ds → AreUnits units entities → InterfaceFits e.interface
    → unit entities ds e ≡ Some x → entity_fits units x ≡ true
unfolding unit
unit_is units entities ds e x is all f q =
    let found_architecture = architecture_of e.name ds in
    let a = comes (if_any (λ (p : List ContextItem × t.Architecture). architecture entities e p.0 p.1) found_architecture) _ x q in
    let i = inside_entity e.interface.generics e.interface.ports in
    subst (λ (x : u.Entity). entity_fits units x ≡ true) (some_same _ x a.rest)
    (and_from (generics_fit nothing_inside e.interface.generics && objects_fit (with_generics nothing_inside e.interface.generics) (map (λ (p : u.Port). p.object) e.interface.ports)
    && list_all port_fits e.interface.ports) (architecture_fits units i a.value)
    (and_from (generics_fit nothing_inside e.interface.generics && objects_fit (with_generics nothing_inside e.interface.generics) (map (λ (p : u.Port). p.object) e.interface.ports)) (list_all port_fits e.interface.ports)
    (and_from (generics_fit nothing_inside e.interface.generics) (objects_fit (with_generics nothing_inside e.interface.generics) (map (λ (p : u.Port). p.object) e.interface.ports)) f.generics f.objects)
    f.kinds)
    (go found_architecture refl a.value a.is))
  where
    go : (o : Option (List ContextItem × t.Architecture)) → architecture_of e.name ds ≡ o → (y : Option u.Architecture)
        → if_any (λ (p : List ContextItem × t.Architecture). architecture entities e p.0 p.1) o ≡ Some y → architecture_fits units (inside_entity e.interface.generics e.interface.ports) y ≡ true
    go None h y g = subst (λ y. architecture_fits units (inside_entity e.interface.generics e.interface.ports) y ≡ true) (some_same None y g) refl
    go (Some p) h y g =
        let b = comes (architecture entities e p.0 p.1) _ y g in
        subst (λ y. architecture_fits units (inside_entity e.interface.generics e.interface.ports) y ≡ true) (some_same (Some b.value) y b.rest)
        (architecture_is units entities e p.0 p.1 b.value all f
        (found (λ (a : List ContextItem × t.Architecture). IsArchitectureIn Wide a.1) (λ (a : List ContextItem × t.Architecture). bytes_eq e.name a.1.entity.text) (architectures_of ds) p (architectures_are ds is) h) b.is)

-- the interfaces of a file's entities fit
interfaces_fit : (language : Language) (f : File) (views : List EntityView) → each (viewed language f.units) (entities_of f.units) ≡ Some views
    → AllByRecursion (λ (e : EntityView). InterfaceFits e.interface) views
interfaces_fit language f views h =
    each_given (viewed language f.units) (λ (e : EntityView). InterfaceFits e.interface) (λ e y h. entity_fits_interface language e.0 e.1 _ y h) (entities_of f.units) views h

pub units_are_sound : UnitsAreSound
unfolding are_sound
units_are_sound language f units is q =
    let p = file_parts language f units q in
    let interfaces = interfaces_fit language f p.views.value p.views.is in
    let all = are_units f.units p.views.value units interfaces p.gives in
    each_passes (unit p.views.value f.units) (λ (e : EntityView). InterfaceFits e.interface) (entity_fits units) (λ e x h g. unit_is units p.views.value f.units e x is all h g) p.views.value units interfaces p.gives

pub ports_distinct : PortsAreDistinct
ports_distinct language f units q =
    let p = file_parts language f units q in
    each_passes (unit p.views.value f.units) (λ (e : EntityView). InterfaceFits e.interface) (λ (x : u.Entity). are_distinct (map (λ (p : u.Port). p.object.name) x.ports))
    (λ e x h g. ap (λ ps. are_distinct (map (λ (p : u.Port). p.object.name) ps)) (unit_of p.views.value f.units e x g).ports ∙ h.distinct) p.views.value units
    (interfaces_fit language f p.views.value p.views.is) p.gives
