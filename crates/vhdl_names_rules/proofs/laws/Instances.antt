-- An instance is of a unit of the file, and has an entry for each of its generics and ports.
use Rattle.std.proofs.Common.{◌≡◌, ℕ, zero, suc, ◌+◌, Bool, true, false, not, ◌&&◌, List, [], ◌∷◌, ◌++◌, length, map, Option, Some, None, refl, ap, sym, ◌∙◌, subst, arith}
use Rattle.std.specs.List.{slice_get, filter_map, cons_option}
use Rattle.std.specs.Option.{is_some}
use Rattle.std.proofs.lemmas.List.{length-map, length-append}
use Rattle.vhdl_lexer.specs.declared.language.Language.{Language}
use Rattle.vhdl_tree.specs.declared.operator.Direction.{Direction}
use Rattle.vhdl_tree.specs.Tree as t
use Rattle.vhdl_tree.specs.Tree.{Ident, Expr, ContextItem}
use Rattle.vhdl_names_rules.specs.units.Expressions.{SignalPart}
use Rattle.vhdl_names_rules.specs.units.Units as u
use Rattle.vhdl_names_rules.specs.Rules.{◌>>=◌, is_wide, each, if_any, all_of}
use Rattle.vhdl_names_rules.specs.Visibility as visibility
use Rattle.vhdl_names_rules.specs.Visibility.{Name, Meaning, DeclaredRange, Declared, declare, all_declared, are_distinct, names_of, numbered, ranged, global_if, count_of, ranges_count, Sight, meaning, with_declared, Declares, followed_by}
use Rattle.vhdl_names_rules.specs.Packages.{sight_of}
use Rattle.vhdl_names_rules.specs.Subtypes as subtypes
use Rattle.vhdl_names_rules.specs.Subtypes.{TypeClass, class_of, subtype, object_subtype, integer_subtype, form_range, form_direction, fixed_value}
use Rattle.vhdl_names_rules.specs.Declarations.{in_order, is_global, GenericForm, generic_form, as_kind, as_port_type, mode_of, without_ports, generic, port}
use Rattle.vhdl_names_rules.specs.Interfaces.{Interface, EntityView, declared_names, assertion_labels, with_labels, interface, entity}
use Rattle.vhdl_names_rules.specs.Instances.{Formal, GenericFormal, generic_formal, generic_actual, generic_actuals, port_formal, port_actual, port_actuals}
use Rattle.vhdl_names_rules.specs.Files.{entities_of, viewed, architecture, architecture_of, unit}
use Rattle.vhdl_names_rules.specs.laws.Sound.{InstancesFitUnits}
use Rattle.vhdl_names_rules.proofs.laws.Rules.{comes, kept, some_is, made}
use Rattle.vhdl_names_rules.proofs.laws.Parts.{entity_parts, instance_parts, file_parts}
use Rattle.vhdl_names_rules.proofs.laws.Associations.{formals_have_actuals}

-- ---- formals of an interface

-- how many of some declarations are of a kind
abbrev kinds : {C : Type 0} → (Declared → Option C) → List Declared → ℕ
kinds pick ds = length (filter_map pick ds)

kinds-append : {C : Type 0} (pick : Declared → Option C) (ds es : List Declared) → kinds pick (ds ++ es) ≡ kinds pick ds + kinds pick es
kinds-append pick [] es = omega arith
kinds-append {C} pick (d ∷ ds) es = go (pick d) (kinds-append pick ds es)
  where
    go : (o : Option C) → kinds pick (ds ++ es) ≡ kinds pick ds + kinds pick es
        → length (cons_option o (filter_map pick (ds ++ es))) ≡ length (cons_option o (filter_map pick ds)) + kinds pick es
    go None h = h
    go (Some c) h = omega arith

-- for each thing analysed so many declarations of the kind
kinds_in_order : {A B C : Type 0} (times : ℕ → ℕ) (none : times 0 ≡ 0) (sum : (a b : ℕ) → times (a + b) ≡ times a + times b)
    (pick : Declared → Option C) (declares : Sight → A → Option (Declares B))
    → ((sight : Sight) (a : A) (x : Declares B) → declares sight a ≡ Some x → kinds pick x.declared ≡ times (length x.analysed))
    → (as' : List A) (sight : Sight) (x : Declares B) → in_order with_declared declares sight as' ≡ Some x → kinds pick x.declared ≡ times (length x.analysed)
kinds_in_order {A} {B} times none sum pick declares one [] sight x e =
    let h = some_is _ x e in
    ap (λ (x : Declares B). kinds pick x.declared) (sym h) ∙ sym none ∙ ap (λ (x : Declares B). times (length x.analysed)) h
kinds_in_order {A} {B} times none sum pick declares one (a ∷ as') sight x e =
    let c = comes (declares sight a) (λ x. in_order with_declared declares (with_declared sight x.declared) as' >>= λ xs. Some (followed_by x xs)) x e in
    let d = comes (in_order with_declared declares (with_declared sight c.value.declared) as') (λ xs. Some (followed_by c.value xs)) x c.rest in
    let h = some_is (followed_by c.value d.value) x d.rest in
    let p = one sight a c.value c.is in
    let q = kinds_in_order times none sum pick declares one as' (with_declared sight c.value.declared) d.value d.is in
    ap (λ (x : Declares B). kinds pick x.declared) (sym h)
    ∙ kinds-append pick c.value.declared d.value.declared
    ∙ ap (λ n. n + kinds pick d.value.declared) p
    ∙ ap (λ n. times (length c.value.analysed) + n) q
    ∙ sym (sum (length c.value.analysed) (length d.value.analysed))
    ∙ ap times (sym (length-append c.value.analysed d.value.analysed))
    ∙ ap (λ (x : Declares B). times (length x.analysed)) h

all_numbered : {B C : Type 0} (pick : Declared → Option C) (f : ℕ → Meaning) (g : Ident → B)
    → ((n : Name) (k : ℕ) → is_some (pick (declare n (f k))) ≡ true) → (k : ℕ) (is : List Ident) → kinds pick (numbered f k (names_of is)) ≡ length (map g is)
all_numbered pick f g picks k [] = refl
all_numbered {B} {C} pick f g picks k (i ∷ is) = go (pick (declare i.text (f k))) (picks i.text k) (all_numbered pick f g picks (suc k) is)
  where
    go : (o : Option C) → is_some o ≡ true → kinds pick (numbered f (suc k) (names_of is)) ≡ length (map g is)
        → length (cons_option o (filter_map pick (numbered f (suc k) (names_of is)))) ≡ suc (length (map g is))
    go None y h = absurd (cc)
    go (Some c) y h = ap suc h

none_numbered : {C : Type 0} (pick : Declared → Option C) (f : ℕ → Meaning)
    → ((n : Name) (k : ℕ) → is_some (pick (declare n (f k))) ≡ false) → (k : ℕ) (ns : List Name) → kinds pick (numbered f k ns) ≡ 0
none_numbered pick f leaves k [] = refl
none_numbered {C} pick f leaves k (n ∷ ns) = go (pick (declare n (f k))) (leaves n k) (none_numbered pick f leaves (suc k) ns)
  where
    go : (o : Option C) → is_some o ≡ false → kinds pick (numbered f (suc k) ns) ≡ 0
        → length (cons_option o (filter_map pick (numbered f (suc k) ns))) ≡ 0
    go None y h = h
    go (Some c) y h = absurd (cc)

-- a range, and whether it is globally static, make no formal another
module _ {C : Type 0} (pick : Declared → Option C) (same : (d : Declared) (r : Option DeclaredRange) (g : Bool) → pick (record d { range = r; is_global = g }) ≡ pick d) where
  picked_global : (b : Bool) (ds : List Declared) → filter_map pick (global_if b ds) ≡ filter_map pick ds
  picked_global b [] = refl
  picked_global b (d ∷ ds) = ap (λ o. cons_option o (filter_map pick (global_if b ds))) (same d d.range b) ∙ ap (cons_option (pick d)) (picked_global b ds)

  picked_ranged : (o : Option Direction) (k : ℕ) (ds : List Declared) → filter_map pick (ranged o k ds) ≡ filter_map pick ds
  picked_ranged None k ds = refl
  picked_ranged (Some w) k [] = refl
  picked_ranged (Some w) k (d ∷ ds) =
      ap (λ o. cons_option o (filter_map pick (ranged (Some w) (suc k) ds))) (same d (Some (record { number = k; direction = w })) d.is_global)
      ∙ ap (cons_option (pick d)) (picked_ranged (Some w) (suc k) ds)

  as_many : (b : Bool) (o : Option Direction) (k : ℕ) (ds : List Declared) → kinds pick (global_if b (ranged o k ds)) ≡ kinds pick ds
  as_many b o k ds = ap length (picked_global b (ranged o k ds) ∙ picked_ranged o k ds)

record Kinds {B : Type 0} (generics ports : ℕ) (x : Declares B) : Type 0 where
  generics_are : kinds generic_formal x.declared ≡ generics
  ports_are : kinds port_formal x.declared ≡ ports

-- a name of this form is a generic's
abbrev IsGeneric : GenericForm → Type 0
IsGeneric f = ((n : Name) (k : ℕ) → is_some (generic_formal (declare n (f.meaning k))) ≡ true) × ((n : Name) (k : ℕ) → is_some (port_formal (declare n (f.meaning k))) ≡ false)

form_is : (sight : Sight) (s : t.Subtype) (c : TypeClass) (f : GenericForm) → generic_form sight s c ≡ Some f → IsGeneric f
form_is sight s subtypes.integers f h =
    let a = comes (integer_subtype sight s) _ f h in
    subst IsGeneric (some_is _ f a.rest) (λ n k. refl, λ n k. refl)
form_is sight s subtypes.booleans f h =
    let a = kept (is_wide sight.language && not (is_some s.constraint)) _ f h in
    subst IsGeneric (some_is _ f a.1) (λ n k. refl, λ n k. refl)
form_is sight s subtypes.others f h =
    let w = kept (is_wide sight.language) _ f h in
    let a = comes (subtype sight s) _ f w.1 in
    let b = comes (as_kind a.value.type) _ f a.rest in
    subst IsGeneric (some_is _ f b.rest) (λ n k. refl, λ n k. refl)

of_generic : (sight : Sight) (g : t.Generic) (x : Declares u.Generic) → generic sight g ≡ Some x → Kinds (length x.analysed) 0 x
unfolding generic
of_generic sight g x e =
    let a = comes (meaning sight g.subtype.mark.text) _ x e in
    let b = comes (generic_form sight g.subtype (class_of a.value)) _ x a.rest in
    let c = comes (if_any b.value.value g.default) _ x b.rest in
    let is = form_is sight g.subtype (class_of a.value) b.value b.is in
    let ds : List Declared = numbered b.value.meaning (count_of b.value.class sight.region) (names_of g.names) in
    let P : Declares u.Generic → Type 0 = λ x. Kinds (length x.analysed) 0 x in
    subst P (some_is _ x c.rest) (record {
      generics_are = as_many generic_formal (λ d r g. refl) (is_global sight g.subtype) b.value.direction (ranges_count sight.region) ds
          ∙ all_numbered generic_formal b.value.meaning _ is.0 (count_of b.value.class sight.region) g.names;
      ports_are = as_many port_formal (λ d r g. refl) (is_global sight g.subtype) b.value.direction (ranges_count sight.region) ds
          ∙ none_numbered port_formal b.value.meaning is.1 (count_of b.value.class sight.region) (names_of g.names);
    })

of_port : (sight : Sight) (p : t.Port) (x : Declares u.Port) → port sight p ≡ Some x → Kinds 0 (length x.analysed) x
unfolding port
of_port sight p x e =
    let a = comes (object_subtype (without_ports sight) p.subtype) _ x e in
    let b = comes (as_port_type a.value.type) _ x a.rest in
    let c = comes (if_any (fixed_value (without_ports sight) a.value.type (form_range a.value.form)) p.default) _ x b.rest in
    let means : ℕ → Meaning = λ k. visibility.port k (mode_of p.mode) b.value in
    let ds : List Declared = numbered means (count_of visibility.is_port sight.region) (names_of p.names) in
    let P : Declares u.Port → Type 0 = λ x. Kinds 0 (length x.analysed) x in
    subst P (some_is _ x c.rest) (record {
      generics_are = as_many generic_formal (λ d r g. refl) (is_global (without_ports sight) p.subtype) (form_direction a.value.form) (ranges_count sight.region) ds
          ∙ none_numbered generic_formal means (λ n k. refl) (count_of visibility.is_port sight.region) (names_of p.names);
      ports_are = as_many port_formal (λ d r g. refl) (is_global (without_ports sight) p.subtype) (form_direction a.value.form) (ranges_count sight.region) ds
          ∙ all_numbered port_formal means _ (λ n k. refl) (count_of visibility.is_port sight.region) p.names;
    })

-- as many formals as generics and ports
record HasFormals (i : Interface) : Type 0 where
  generics_are : kinds generic_formal i.declared ≡ length i.generics
  ports_are : kinds port_formal i.declared ≡ length i.ports

has_formals : (sight : Sight) (gs : Option (List t.Generic)) (ps : Option (List t.Port)) (i : Interface) → interface sight gs ps ≡ Some i → HasFormals i
unfolding interface
has_formals sight gs ps i e =
    let c = comes (in_order with_declared generic sight (all_of gs)) _ i e in
    let d = comes (in_order with_declared port (with_declared sight c.value.declared) (all_of ps)) _ i c.rest in
    let k = kept (are_distinct (declared_names (c.value.declared ++ d.value.declared))) _ i d.rest in
    let gg = kinds_in_order (λ n. n) refl (λ a b. refl) generic_formal generic (λ s a x h. (of_generic s a x h).generics_are) (all_of gs) sight c.value c.is in
    let gp = kinds_in_order (λ n. 0) refl (λ a b. refl) port_formal generic (λ s a x h. (of_generic s a x h).ports_are) (all_of gs) sight c.value c.is in
    let pg = kinds_in_order (λ n. 0) refl (λ a b. refl) generic_formal port (λ s a x h. (of_port s a x h).generics_are) (all_of ps) (with_declared sight c.value.declared) d.value d.is in
    let pp = kinds_in_order (λ n. n) refl (λ a b. refl) port_formal port (λ s a x h. (of_port s a x h).ports_are) (all_of ps) (with_declared sight c.value.declared) d.value d.is in
    let g1 = kinds-append generic_formal c.value.declared d.value.declared in
    let p1 = kinds-append port_formal c.value.declared d.value.declared in
    subst HasFormals (some_is _ i k.1) (record { generics_are = omega arith; ports_are = omega arith })

-- labels are no formals
no_generics : (ns : List Name) → kinds generic_formal (all_declared visibility.label ns) ≡ 0
no_generics [] = refl
no_generics (n ∷ ns) = no_generics ns

no_ports : (ns : List Name) → kinds port_formal (all_declared visibility.label ns) ≡ 0
no_ports [] = refl
no_ports (n ∷ ns) = no_ports ns

labelled_formals : (i : Interface) (ls : List Name) → HasFormals i → HasFormals (with_labels i ls)
labelled_formals i [] h = h
labelled_formals i (l ∷ ls) h =
    let labels : List Declared = all_declared visibility.label (l ∷ ls) in
    let g = kinds-append generic_formal i.declared labels in
    let p = kinds-append port_formal i.declared labels in
    let ng = no_generics (l ∷ ls) in
    let np = no_ports (l ∷ ls) in
    let hg = h.generics_are in
    let hp = h.ports_are in
    record { generics_are = omega arith; ports_are = omega arith }

entity_formals : (language : Language) (items : List ContextItem) (e : t.Entity) (a : Option Name) (v : EntityView) → entity language items e a ≡ Some v → HasFormals v.interface
entity_formals language items e a v h =
    let p = entity_parts language items e a v h in
    subst (λ (v : EntityView). HasFormals v.interface) p.is
    (labelled_formals p.own.value (assertion_labels e.statements) (has_formals (sight_of p.seen.value []) e.generics e.ports p.own.value p.own.is))

-- ---- lists of the same length

generics_length : (sight : Sight) (fs : List GenericFormal) (es : List (Option Expr)) (xs : List (Option u.Fixed)) → length fs ≡ length es
    → generic_actuals sight fs es ≡ Some xs → length xs ≡ length fs
generics_length sight [] [] xs l e = ap length (sym (some_is _ xs e))
generics_length sight (f ∷ fs) (x ∷ es) xs l e =
    let c = comes (if_any (generic_actual sight f) x) (λ y. generic_actuals sight fs es >>= λ ys. Some (y ∷ ys)) xs e in
    let d = comes (generic_actuals sight fs es) (λ ys. Some (c.value ∷ ys)) xs c.rest in
    ap length (sym (some_is _ xs d.rest)) ∙ ap suc (generics_length sight fs es d.value (omega arith) d.is)
generics_length sight _ _ xs l e = absurd (omega arith)

ports_length : (sight : Sight) (fs : List Formal) (es : List (Option Expr)) (ps : List (Option SignalPart)) → length fs ≡ length es
    → port_actuals sight fs es ≡ Some ps → length ps ≡ length fs
ports_length sight [] [] ps l e = ap length (sym (some_is _ ps e))
ports_length sight (f ∷ fs) (x ∷ es) ps l e =
    let c = comes (if_any (port_actual sight f) x) (λ p. port_actuals sight fs es >>= λ ps. Some (p ∷ ps)) ps e in
    let d = comes (port_actuals sight fs es) (λ ps. Some (c.value ∷ ps)) ps c.rest in
    ap length (sym (some_is _ ps d.rest)) ∙ ap suc (ports_length sight fs es d.value (omega arith) d.is)
ports_length sight _ _ ps l e = absurd (omega arith)

each_gives : {A B : Type 0} (f : A → Option B) (P : B → Type 0) → ((x : A) (y : B) → f x ≡ Some y → P y)
    → (xs : List A) (ys : List B) (k : ℕ) (y : B) → each f xs ≡ Some ys → slice_get ys k ≡ Some y → P y
each_gives {A} {B} f P one [] ys k y e p =
    let g : slice_get {X = B} [] k ≡ Some y = ap (λ ys. slice_get ys k) (some_is _ ys e) ∙ p in
    absurd (cc)
each_gives {A} {B} f P one (x ∷ xs) ys k y e p =
    let c = comes (f x) (λ y. each f xs >>= λ ys. Some (y ∷ ys)) ys e in
    let d = comes (each f xs) (λ ys. Some (c.value ∷ ys)) ys c.rest in
    here c.value d.value (one x c.value c.is) (λ k p. each_gives f P one xs d.value k y d.is p) k
    (ap (λ ys. slice_get ys k) (some_is _ ys d.rest) ∙ p)
  where
    here : (b : B) (bs : List B) → P b → ((k : ℕ) → slice_get bs k ≡ Some y → P y) → (k : ℕ) → slice_get (b ∷ bs) k ≡ Some y → P y
    here b bs h more zero p = subst P (some_is b y p) h
    here b bs h more (suc k) p = more k p

-- ---- instances

unit_lists : (entities : List EntityView) (ds : List t.DesignUnit) (e : EntityView) (x : u.Entity) → unit entities ds e ≡ Some x
    → (x.generics ≡ e.interface.generics) × (x.ports ≡ e.interface.ports)
unfolding unit
unit_lists entities ds e x h =
    let a = comes (if_any (λ (p : List ContextItem × t.Architecture). architecture entities e p.0 p.1) (architecture_of e.name ds)) _ x h in
    let s = some_is _ x a.rest in
    (ap (λ (x : u.Entity). x.generics) (sym s), ap (λ (x : u.Entity). x.ports) (sym s))

pub instances_fit_units : InstancesFitUnits
instances_fit_units language f units entities sight label i x whole viewed_are h =
    let p = instance_parts entities sight label i x h in
    let w = file_parts language f units whole in
    let same = some_is w.views.value entities (sym w.views.is ∙ viewed_are) in
    let all : each (unit entities f.units) entities ≡ Some units = ap (λ es. each (unit es f.units) es) (sym same) ∙ w.gives in
    let m = made (unit entities f.units) entities units p.place.value p.view.value all p.view.is in
    let lists = unit_lists entities f.units p.view.value m.value m.is in
    let has = each_gives (viewed language f.units) (λ (v : EntityView). HasFormals v.interface) (λ e v h. entity_formals language e.0 e.1 _ v h) (entities_of f.units) entities p.place.value p.view.value viewed_are p.view.is in
    let declared : List Declared = p.view.value.interface.declared in
    let generics = (formals_have_actuals (map (λ (f : GenericFormal). f.name) (filter_map generic_formal declared)) (all_of i.generics) p.generics.value p.generics.is).as_many
    ∙ length-map (filter_map generic_formal declared) (λ (f : GenericFormal). f.name) in
    let ports = (formals_have_actuals (map (λ (f : Formal). f.name) (filter_map port_formal declared)) (all_of i.ports) p.ports.value p.ports.is).as_many
    ∙ length-map (filter_map port_formal declared) (λ (f : Formal). f.name) in (
      m.value,
      ap (λ (x : u.Instance). slice_get units x.unit) (sym p.is) ∙ m.at,
      ap (λ (x : u.Instance). length x.generics) (sym p.is) ∙ generics_length sight (filter_map generic_formal declared) p.generics.value p.values.value (sym generics) p.values.is ∙ has.generics_are ∙ ap length (sym lists.0),
      ap (λ (x : u.Instance). length x.ports) (sym p.is) ∙ ports_length sight (filter_map port_formal declared) p.ports.value p.places.value (sym ports) p.places.is ∙ has.ports_are ∙ ap length (sym lists.1),
    )
