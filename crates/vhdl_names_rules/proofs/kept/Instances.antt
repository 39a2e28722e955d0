-- Instances that are given break no rule (IEEE 1076-2008, 6.5.7 and 11.7).
use Rattle.std.proofs.Common.{◌≡◌, ℕ, zero, suc, Bool, true, false, cond, List, [], ◌∷◌, map, Option, Some, None, refl, ap, sym, ◌∙◌}
use Rattle.std.specs.Prelude.{bytes_eq, codes, filter, option_map, is_none}
use Rattle.std.specs.List.{slice_get, filter_map}
use Rattle.std.proofs.lemmas.Option.{slice_get-map}
use Rattle.std.proofs.lemmas.Slice.Eq.{bytes_eq-Decides}
use Rattle.vhdl_tree.specs.Tree as t
use Rattle.vhdl_tree.specs.Tree.{Ident, Expr, Association}
use Rattle.vhdl_names_rules.specs.declared.fault.NameProblem.TheVariants.{Undeclared, WrongKind, TypeMismatch, WriteOfIn, LeftOut}
use Rattle.vhdl_names_rules.specs.declared.kind.ElementKind.{ElementKind}
use Rattle.vhdl_names_rules.specs.declared.kind.ObjectType.TheVariants.{Elements}
use Rattle.vhdl_names_rules.specs.units.Expressions.{SignalPart}
use Rattle.vhdl_names_rules.specs.units.Units as u
use Rattle.vhdl_names_rules.specs.Rules.{if_any, given_that, all_of}
use Rattle.vhdl_names_rules.specs.Visibility as visibility
use Rattle.vhdl_names_rules.specs.Visibility.{Name, Meaning, Declared, DeclaredRange, Sight, meaning, declaration}
use Rattle.vhdl_names_rules.specs.Names.{Suffix}
use Rattle.vhdl_names_rules.specs.Types as types
use Rattle.vhdl_names_rules.specs.Types.{Typed}
use Rattle.vhdl_names_rules.specs.Operators.{is_vector}
use Rattle.vhdl_names_rules.specs.Aggregates.{arranged}
use Rattle.vhdl_names_rules.specs.Expressions.{typed, static, typed_suffix, as_value}
use Rattle.vhdl_names_rules.specs.Subtypes.{is_known_value}
use Rattle.vhdl_names_rules.specs.Declarations.{static_test}
use Rattle.vhdl_names_rules.specs.Statements as statements
use Rattle.vhdl_names_rules.specs.Statements.{SignalName, as_signal}
use Rattle.vhdl_names_rules.specs.Interfaces.{EntityView, entity_named}
use Rattle.vhdl_names_rules.specs.Instances as are
use Rattle.vhdl_names_rules.specs.Instances.{Formal, as_name, is_type, may_join, is_architecture, as_component, GenericKind, GenericFormal, generic_formal, port_formal, formals_of, expression_of, value_as_actual, generic_actuals, port_actuals}
use Rattle.vhdl_names_rules.specs.problems.Broken.{Broken, ◌▸◌, refused, unless, lacking, where_given, any_of, of_any}
use Rattle.vhdl_names_rules.specs.problems.Places.{start}
use Rattle.vhdl_names_rules.specs.problems.Statements as sequential
use Rattle.vhdl_names_rules.specs.problems.Instances as broken
use Rattle.vhdl_names_rules.specs.problems.Instances.{is_value, names_value, actual_signal, given_value}
use Rattle.vhdl_names_rules.proofs.laws.Rules.{comes, kept, some_is}
use Rattle.vhdl_names_rules.proofs.laws.Parts.{instance_parts}
use Rattle.vhdl_names_rules.proofs.laws.Associations.{formals_have_actuals}
use Rattle.vhdl_names_rules.proofs.Telling.{IsKept, both_kept, unless_kept, lacking_kept, given_kept}
use Rattle.vhdl_names_rules.proofs.kept.Keeping.{nothing_kept, mapped, if_any_kept, at_each_kept}
use Rattle.vhdl_names_rules.proofs.kept.Aggregates.{arranged_kept}
use Rattle.vhdl_names_rules.proofs.kept.Expressions.{meaning_kept, typed_kept, static_kept, static_condition_kept}
use Rattle.vhdl_names_rules.proofs.kept.Statements.{signal_kept}
use Rattle.vhdl_names_rules.proofs.kept.Associations.{AreKept, associated_kept, is_for}

-- ---- which unit is instantiated

pub architecture_kept : (a : Option Ident) (own : Option Name) → is_architecture a own ≡ true → IsKept (broken.architecture a own)
architecture_kept None own h = nothing_kept
architecture_kept (Some n) own h = unless_kept WrongKind n.at (is_architecture (Some n) own) h

pub instantiated_kept : (entities : List EntityView) (sight : Sight) (i : t.Instantiated) (k : ℕ) → are.instantiated entities sight i ≡ Some k
    → IsKept (broken.instantiated entities sight i)
unfolding are.instantiated
instantiated_kept entities sight (t.entity_unit library n architecture) k h =
    let a = kept (bytes_eq library.text (codes "work")) _ k h in
    let e = comes (entity_named entities n.text) _ k a.1 in
    let b = kept (is_architecture architecture e.value.1.architecture) _ k e.rest in
    both_kept _ _ (unless_kept Undeclared library.at (bytes_eq library.text (codes "work")) a.0)
    (both_kept _ _ (lacking_kept Undeclared n.at (entity_named entities n.text) e.value e.is)
    (given_kept (λ e. broken.architecture architecture e.1.architecture) (entity_named entities n.text) e.value e.is
    (architecture_kept architecture e.value.1.architecture b.0)))
instantiated_kept entities sight (t.component_unit word n) k h =
    let d = comes (meaning sight n.text) as_component k h in
    both_kept _ _ (meaning_kept sight n d.value d.is)
    (given_kept (λ d. lacking WrongKind n.at (as_component d)) (meaning sight n.text) d.value d.is (lacking_kept WrongKind n.at (as_component d.value) k d.rest))

-- ---- maps

-- a formal of a name is one of these of the name
named_at : {F : Type 0} (name : F → Name) (n : Name) (fs : List F) (i : ℕ) (f : F) → slice_get (filter (λ f. bytes_eq n (name f)) fs) i ≡ Some f
    → (j : ℕ) × (slice_get fs j ≡ Some f) × (name f ≡ n)
named_at name n [] i f h = absurd cc
named_at {F} name n (g ∷ fs) i f h = go (bytes_eq n (name g)) refl i h (λ i h. named_at name n fs i f h)
  where
    go : (b : Bool) → bytes_eq n (name g) ≡ b → (i : ℕ) → slice_get (cond b (g ∷ filter (λ f. bytes_eq n (name f)) fs) (filter (λ f. bytes_eq n (name f)) fs)) i ≡ Some f
        → ((i : ℕ) → slice_get (filter (λ f. bytes_eq n (name f)) fs) i ≡ Some f → (j : ℕ) × (slice_get fs j ≡ Some f) × (name f ≡ n))
        → (j : ℕ) × (slice_get (g ∷ fs) j ≡ Some f) × (name f ≡ n)
    go true e zero h more = (0, h, ap name (sym (some_is g f h)) ∙ sym ((bytes_eq-Decides n (name g)).0 e))
    go true e (suc i) h more = let m = more i h in (suc m.0, m.1, m.2)
    go false e i h more = let m = more i h in (suc m.0, m.1, m.2)

-- an expression for each of these formals
for_each_formal : {F : Type 0} (actual : F → Expr → Broken) (fs : List F) (o : Option Expr)
    → ((i : ℕ) (f : F) → slice_get fs i ≡ Some f → IsKept (of_any (actual f) o)) → IsKept (of_any (λ e. any_of (λ f. actual f e) fs) o)
for_each_formal actual fs None h = nothing_kept
for_each_formal actual fs (Some e) h = at_each_kept (λ f. actual f e) fs h

-- a map of these formals, where the actual of each breaks no rule
map_kept : {F : Type 0} (name : F → Name) (actual : F → Expr → Broken) (fs : List F) (as' : List Association) (es : List (Option Expr))
    → are.associated (map name fs) as' ≡ Some es
    → ((j : ℕ) (f : F) (e : Option Expr) → slice_get fs j ≡ Some f → slice_get es j ≡ Some e → IsKept (of_any (actual f) e))
    → IsKept (broken.associated (map name fs) (λ n e. any_of (λ f. actual f e) (filter (λ f. bytes_eq n (name f)) fs)) as')
map_kept {F} name actual fs as' es h each_given = associated_kept (map name fs) of_name as' es h for_formal
  where
    of_name : Name → Expr → Broken
    of_name n e = any_of (λ f. actual f e) (filter (λ f. bytes_eq n (name f)) fs)

    for_formal : (ns : List Name) → formals_of (map name fs) as' ≡ Some ns → AreKept of_name ns as'
    for_formal ns given k n a p q = for_each_formal actual (filter (λ f. bytes_eq n (name f)) fs) (expression_of a.actual) (λ i f r.
        let at = named_at name n fs i f r in
        let formal : slice_get (map name fs) at.0 ≡ Some n = slice_get-map name fs at.0 ∙ ap (option_map name) at.1 ∙ ap Some at.2 in
        each_given at.0 f (expression_of a.actual) at.1
        ((formals_have_actuals (map name fs) as' es h).entry at.0 k n a formal q (is_for as' (map name fs) ns k n a given p q)))

-- ---- generics

given_value_kept : (k : ElementKind) (at : ℕ) (x : Typed) (y : u.Fixed) → value_as_actual k x ≡ Some y → IsKept (given_value k at x)
given_value_kept k at (types.composite p es) y h =
    let v = kept (is_vector k) _ y h in
    let a = comes (arranged k true es) _ y v.1 in
    both_kept _ _ (unless_kept TypeMismatch p (is_vector k) v.0)
    (both_kept _ _ (arranged_kept k true es a.value a.is) (lacking_kept LeftOut at (value_as_actual k (types.composite p es)) y h))
given_value_kept k at x y h =
    let g = comes (as_value (Elements k) None x) (λ g. given_that LeftOut (is_known_value g) (u.Fixed.given g)) y h in
    both_kept _ _ (lacking_kept TypeMismatch at (as_value (Elements k) None x) g.value g.is) (lacking_kept LeftOut at (value_as_actual k x) y h)

generic_by_kept : (sight : Sight) (n : Name) (k : GenericKind) (e : Expr) (x : u.Fixed) → are.generic_actual sight (record { name = n; kind = k }) e ≡ Some x
    → IsKept (broken.generic_actual sight e (record { name = n; kind = k }))
unfolding are.generic_actual
generic_by_kept sight n are.integer e x h = let m = mapped u.Fixed.integer (static sight e) x h in static_kept sight e m.value m.from
generic_by_kept sight n are.boolean e x h = let m = mapped u.Fixed.truth (static_test sight e) x h in static_condition_kept sight e m.value m.from
generic_by_kept sight n (are.GenericKind.elements k) e x h =
    let a = comes (typed sight e) (value_as_actual k) x h in
    both_kept _ _ (typed_kept e sight a.value a.is)
    (given_kept (given_value k (start e)) (typed sight e) a.value a.is (given_value_kept k (start e) a.value x a.rest))

generic_actual_kept : (sight : Sight) (f : GenericFormal) (e : Expr) (x : u.Fixed) → are.generic_actual sight f e ≡ Some x → IsKept (broken.generic_actual sight e f)
generic_actual_kept sight f e x h = generic_by_kept sight f.name f.kind e x h

-- the actual of each formal is given
generic_given : (sight : Sight) (fs : List GenericFormal) (es : List (Option Expr)) (xs : List (Option u.Fixed)) (j : ℕ) (f : GenericFormal) (e : Option Expr)
    → generic_actuals sight fs es ≡ Some xs → slice_get fs j ≡ Some f → slice_get es j ≡ Some e → IsKept (of_any (λ e. broken.generic_actual sight e f) e)
generic_given sight (g ∷ fs) (d ∷ es) xs zero f e h p q =
    let c = comes (if_any (are.generic_actual sight g) d) _ xs h in
    let is : if_any (are.generic_actual sight f) e ≡ Some c.value =
    ap (λ f. if_any (are.generic_actual sight f) e) (sym (some_is g f p)) ∙ ap (λ e. if_any (are.generic_actual sight g) e) (sym (some_is d e q)) ∙ c.is in
    if_any_kept (λ e. broken.generic_actual sight e f) (are.generic_actual sight f) (generic_actual_kept sight f) e c.value is
generic_given sight (g ∷ fs) (d ∷ es) xs (suc j) f e h p q =
    let c = comes (if_any (are.generic_actual sight g) d) _ xs h in
    let d = comes (generic_actuals sight fs es) _ xs c.rest in
    generic_given sight fs es d.value j f e d.is p q
generic_given sight _ _ xs _ f e h p q = absurd cc

generic_map_kept : (sight : Sight) (fs : List GenericFormal) (as' : List Association) (es : List (Option Expr)) (xs : List (Option u.Fixed))
    → are.associated (map (λ (f : GenericFormal). f.name) fs) as' ≡ Some es → generic_actuals sight fs es ≡ Some xs → IsKept (broken.generic_map sight fs as')
generic_map_kept sight fs as' es xs h g =
    map_kept (λ (f : GenericFormal). f.name) (λ f e. broken.generic_actual sight e f) fs as' es h (λ j f e p q. generic_given sight fs es xs j f e g p q)

-- ---- ports

-- the name of a signal is no value's
not_value : (at : ℕ) (n : Name) (d : Meaning) (r : Option DeclaredRange) (g : Bool) (s : Suffix) (suffix : t.Suffix) (x : SignalName)
    → as_signal at (record { name = n; meaning = d; range = r; is_global = g }) s ≡ Some x → is_value d suffix ≡ false
not_value at n (visibility.port k mode kind) r g s suffix x h = refl
not_value at n (visibility.signal k type) r g s suffix x h = refl
not_value at n _ r g s suffix x h = absurd cc

pub names_no_value : (sight : Sight) (n : t.Name) (x : SignalName) → statements.signal sight n ≡ Some x → names_value (meaning sight n.identifier.text) n.suffix ≡ false
unfolding statements.signal
names_no_value sight n x h =
    let a = kept (is_none n.attribute) _ x h in
    let b = comes (typed_suffix sight n.suffix) _ x a.1 in
    let d = comes (declaration sight n.identifier.text) _ x b.rest in
    ap (λ o. names_value (option_map (λ (d : Declared). d.meaning) o) n.suffix) d.is
    ∙ not_value n.identifier.at d.value.name d.value.meaning d.value.range d.value.is_global b.value n.suffix x d.rest

pub actual_signal_kept : (sight : Sight) (n : t.Name) (x : SignalName) → statements.signal sight n ≡ Some x → IsKept (actual_signal sight n)
actual_signal_kept sight n x h =
    ap (λ t. cond t (sequential.named sight n ▸ refused LeftOut n.identifier.at) (sequential.signal sight n)) (names_no_value sight n x h) ∙ signal_kept sight n x h

pub port_actual_kept : (sight : Sight) (f : Formal) (e : Expr) (x : SignalPart) → are.port_actual sight f e ≡ Some x → IsKept (broken.port_actual sight f e)
unfolding are.port_actual
port_actual_kept sight f e x h =
    let n = comes (as_name e) _ x h in
    let s = comes (statements.signal sight n.value) _ x n.rest in
    let a = kept (is_type f.type s.value.type) _ x s.rest in
    let b = kept (may_join f.mode s.value.mode) _ x a.1 in
    both_kept _ _ (lacking_kept LeftOut (start e) (as_name e) n.value n.is)
    (given_kept (λ n. actual_signal sight n
    ▸ where_given (statements.signal sight n) (λ x. unless TypeMismatch n.identifier.at (is_type f.type x.type) ▸ unless WriteOfIn n.identifier.at (may_join f.mode x.mode))) (as_name e) n.value n.is
    (both_kept _ _ (actual_signal_kept sight n.value s.value s.is)
    (given_kept (λ x. unless TypeMismatch n.value.identifier.at (is_type f.type x.type) ▸ unless WriteOfIn n.value.identifier.at (may_join f.mode x.mode)) (statements.signal sight n.value) s.value s.is
    (both_kept _ _ (unless_kept TypeMismatch n.value.identifier.at (is_type f.type s.value.type) a.0) (unless_kept WriteOfIn n.value.identifier.at (may_join f.mode s.value.mode) b.0)))))

-- the actual of each formal is given
actual_given : (sight : Sight) (fs : List Formal) (es : List (Option Expr)) (ps : List (Option SignalPart)) (j : ℕ) (f : Formal) (e : Option Expr)
    → port_actuals sight fs es ≡ Some ps → slice_get fs j ≡ Some f → slice_get es j ≡ Some e → IsKept (of_any (broken.port_actual sight f) e)
actual_given sight (g ∷ fs) (d ∷ es) ps zero f e h p q =
    let c = comes (if_any (are.port_actual sight g) d) _ ps h in
    let is : if_any (are.port_actual sight f) e ≡ Some c.value =
    ap (λ f. if_any (are.port_actual sight f) e) (sym (some_is g f p)) ∙ ap (λ e. if_any (are.port_actual sight g) e) (sym (some_is d e q)) ∙ c.is in
    if_any_kept (broken.port_actual sight f) (are.port_actual sight f) (port_actual_kept sight f) e c.value is
actual_given sight (g ∷ fs) (d ∷ es) ps (suc j) f e h p q =
    let c = comes (if_any (are.port_actual sight g) d) _ ps h in
    let d = comes (port_actuals sight fs es) _ ps c.rest in
    actual_given sight fs es d.value j f e d.is p q
actual_given sight _ _ ps _ f e h p q = absurd cc

port_map_kept : (sight : Sight) (fs : List Formal) (as' : List Association) (es : List (Option Expr)) (ps : List (Option SignalPart))
    → are.associated (map (λ (f : Formal). f.name) fs) as' ≡ Some es → port_actuals sight fs es ≡ Some ps → IsKept (broken.port_map sight fs as')
port_map_kept sight fs as' es ps h g = map_kept (λ (f : Formal). f.name) (broken.port_actual sight) fs as' es h (λ j f e p q. actual_given sight fs es ps j f e g p q)

-- ---- instances

pub instance_kept : (entities : List EntityView) (sight : Sight) (label : Ident) (i : t.Instance) (x : u.Instance) → are.instance entities sight label i ≡ Some x
    → IsKept (broken.instance entities sight label i)
instance_kept entities sight label i x h =
    let p = instance_parts entities sight label i x h in
    let declared : List Declared = p.view.value.interface.declared in
    both_kept _ _ (instantiated_kept entities sight i.unit p.place.value p.place.is)
    (given_kept (λ k. lacking Undeclared label.at (slice_get entities k) ▸ of_any (λ e. broken.maps sight e i) (slice_get entities k)) (are.instantiated entities sight i.unit) p.place.value p.place.is
    (both_kept _ _ (lacking_kept Undeclared label.at (slice_get entities p.place.value) p.view.value p.view.is)
    (ap (λ o. of_any (λ e. broken.maps sight e i) o) p.view.is
    ∙ both_kept _ _ (generic_map_kept sight (filter_map generic_formal declared) (all_of i.generics) p.generics.value p.values.value p.generics.is p.values.is)
    (port_map_kept sight (filter_map port_formal declared) (all_of i.ports) p.ports.value p.places.value p.ports.is p.places.is))))
