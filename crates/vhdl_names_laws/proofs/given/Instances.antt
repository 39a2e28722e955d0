-- Instances that break no rule are given (IEEE 1076-2008, 6.5.7 and 11.7).
use Rattle.std.proofs.Common.{◌≡◌, ℕ, zero, suc, Bool, true, false, cond, List, [], ◌∷◌, map, Option, Some, None, refl, ap, sym, ◌∙◌, ◌⊎◌, inl, inr}
use Rattle.std.specs.Prelude.{bytes_eq, codes, filter}
use Rattle.std.specs.List.{slice_get, filter_map}
use Rattle.std.proofs.lemmas.Slice.Eq.{bytes_eq-Decides}
use Rattle.vhdl_tree.specs.Tree as t
use Rattle.vhdl_tree.specs.Tree.{Ident, Expr, Association}
use Rattle.vhdl_names_rules.specs.declared.kind.ElementKind.{ElementKind}
use Rattle.vhdl_names_rules.specs.declared.fault.NameProblem.TheVariants.{Undeclared, WrongKind, TypeMismatch, WriteOfIn, LeftOut}
use Rattle.vhdl_names_rules.specs.units.Units as u
use Rattle.vhdl_names_rules.specs.Rules.{if_any, all_of}
use Rattle.vhdl_names_rules.specs.Visibility.{Name, Sight, meaning}
use Rattle.vhdl_names_rules.specs.Operators as o
use Rattle.vhdl_names_rules.specs.Operators.{Typed}
use Rattle.vhdl_names_rules.specs.Expressions.{typed, static}
use Rattle.vhdl_names_rules.specs.Declarations.{static_test}
use Rattle.vhdl_names_rules.specs.Statements as statements
use Rattle.vhdl_names_rules.specs.Interfaces.{EntityView, entity_named}
use Rattle.vhdl_names_rules.specs.Instances as are
use Rattle.vhdl_names_rules.specs.Instances.{Formal, as_name, is_type, may_join, is_architecture, as_component, GenericKind, GenericFormal, generic_formal, port_formal, value_as_actual, expression_of, actual_of, generic_actuals, port_actuals}
use Rattle.vhdl_names_rules.specs.problems.Broken.{Broken, ◌▸◌, refused, unless, lacking, where_given, any_of, of_any}
use Rattle.vhdl_names_rules.specs.problems.Places.{start}
use Rattle.vhdl_names_rules.specs.problems.Expressions as expressions
use Rattle.vhdl_names_rules.specs.problems.Statements as sequential
use Rattle.vhdl_names_rules.specs.problems.Instances as broken
use Rattle.vhdl_names_rules.specs.problems.Instances.{names_value, actual_signal, ports_named, generics_named}
use Rattle.vhdl_names_rules.proofs.laws.Rules.{some_is}
use Rattle.vhdl_names_rules.proofs.Telling.{IsKept}
use Rattle.vhdl_names_rules.proofs.kept.Associations.{AreKept}
use Rattle.vhdl_names_laws.proofs.given.Giving.{IsGiven, this, bound, ruled, mapped_given, parts, holds, given, of_given, if_any_given, any_at}
use Rattle.vhdl_names_laws.proofs.given.Expressions.{meaning_given, typed_given, static_given, static_condition_given}
use Rattle.vhdl_names_laws.proofs.given.Statements.{signal_given}
use Rattle.vhdl_names_laws.proofs.given.Associations.{IsActual, actual_from, associated_given}

-- ---- which unit is instantiated

architecture_given : (a : Option Ident) (own : Option Name) → IsKept (broken.architecture a own) → is_architecture a own ≡ true
architecture_given None own h = refl
architecture_given (Some n) own h = holds WrongKind n.at (is_architecture (Some n) own) h

instantiated_given : (entities : List EntityView) (sight : Sight) (i : t.Instantiated) → IsKept (broken.instantiated entities sight i) → IsGiven (are.instantiated entities sight i)
unfolding are.instantiated
instantiated_given entities sight (t.entity_unit library n architecture) h =
    let k = parts _ _ h in
    let l = parts _ _ k.1 in
    let e = given Undeclared n.at (entity_named entities n.text) l.0 in
    let f = architecture_given architecture e.value.1.architecture
    (of_given (λ e. broken.architecture architecture e.1.architecture) (entity_named entities n.text) e.value e.is l.1) in
    ruled (bytes_eq library.text (codes "work")) _ (holds Undeclared library.at (bytes_eq library.text (codes "work")) k.0)
    (bound (entity_named entities n.text) _ e.value e.is (ruled (is_architecture architecture e.value.1.architecture) (Some e.value.0) f (this e.value.0)))
instantiated_given entities sight (t.component_unit word n) h =
    let k = parts _ _ h in
    let d = meaning_given sight n k.0 in
    bound (meaning sight n.text) as_component d.value d.is
    (given WrongKind n.at (as_component d.value) (of_given (λ d. lacking WrongKind n.at (as_component d)) (meaning sight n.text) d.value d.is k.1))

-- ---- the actuals of formals of either kind

module _ {F : Type 0} (name : F → Name) where
  abbrev those : List F → Name → List F
  those fs n = filter (λ f. bytes_eq n (name f)) fs

  -- a formal is among those of its name
  named_at : (n : Name) (fs : List F) (j : ℕ) (f : F) → slice_get fs j ≡ Some f → name f ≡ n → (i : ℕ) × (slice_get (those fs n) i ≡ Some f)
  named_at n [] j f h e = absurd cc
  named_at n (g ∷ fs) zero f h e =
      let is : bytes_eq n (name g) ≡ true = (bytes_eq-Decides n (name g)).1 (sym e ∙ ap name (sym (some_is g f h))) in
      (0, ap (λ b. slice_get (cond b (g ∷ those fs n) (those fs n)) 0) is ∙ h)
  named_at n (g ∷ fs) (suc j) f h e = go (bytes_eq n (name g)) (named_at n fs j f h e)
    where
      go : (b : Bool) → (i : ℕ) × (slice_get (those fs n) i ≡ Some f) → (i : ℕ) × (slice_get (cond b (g ∷ those fs n) (those fs n)) i ≡ Some f)
      go true m = (suc m.0, m.1)
      go false m = m

  module _ {X : Type 0} (b : F → Expr → Broken) (a : F → Expr → Option X) (one : (f : F) (e : Expr) → IsKept (b f e) → IsGiven (a f e)) where
    -- an actual breaks no rule of one of several formals
    of_one : (ps : List F) (o : Option Expr) (i : ℕ) (f : F) → slice_get ps i ≡ Some f → IsKept (of_any (λ e. any_of (λ f. b f e) ps) o) → IsKept (of_any (b f) o)
    of_one ps None i f at h = refl
    of_one ps (Some e) i f at h = any_at (λ f. b f e) ps i f h at

    actual_given : (fs : List F) (names : List Name) (as' : List Association) → AreKept (λ n e. any_of (λ f. b f e) (those fs n)) names as'
        → (j : ℕ) (f : F) → slice_get fs j ≡ Some f → IsGiven (if_any (a f) (actual_of (name f) names as'))
    actual_given fs names as' h j f at = go (actual_from (name f) names as')
      where
        go : (actual_of (name f) names as' ≡ None) ⊎ IsActual (name f) names as' → IsGiven (if_any (a f) (actual_of (name f) names as'))
        go (inl e) = record { value = None; is = ap (if_any (a f)) e }
        go (inr x) =
            let i = named_at (name f) fs j f at refl in
            let l = of_one (those fs (name f)) (expression_of x.association.actual) i.0 f i.1 (h x.place (name f) x.association x.named x.at) in
            let g = if_any_given (b f) (a f) (one f) (expression_of x.association.actual) l in
            record { value = g.value; is = ap (if_any (a f)) x.is ∙ g.is }

-- ---- generics

actual_value_given : (k : ElementKind) (at : ℕ) (x : Typed) → IsKept (broken.given_value k at x) → IsGiven (value_as_actual k x)
actual_value_given k at (o.composite p es) h = let l = parts _ _ (parts _ _ h).1 in given LeftOut at (value_as_actual k (o.composite p es)) l.1
actual_value_given k at x h = given LeftOut at (value_as_actual k x) (parts _ _ h).1

generic_by_given : (sight : Sight) (e : Expr) (n : Name) (k : GenericKind) → IsKept (broken.generic_actual sight e (record { name = n; kind = k }))
    → IsGiven (are.generic_actual sight (record { name = n; kind = k }) e)
unfolding are.generic_actual
generic_by_given sight e n are.integer h = mapped_given u.Fixed.integer (static sight e) (static_given sight e h)
generic_by_given sight e n are.boolean h = mapped_given u.Fixed.truth (static_test sight e) (static_condition_given sight e h)
generic_by_given sight e n (are.GenericKind.elements k) h =
    let l = parts (expressions.typed sight e) _ h in
    let x = typed_given e sight l.0 in
    bound (typed sight e) (value_as_actual k) x.value x.is (actual_value_given k (start e) x.value (of_given (broken.given_value k (start e)) (typed sight e) x.value x.is l.1))

generic_actual_given : (sight : Sight) (f : GenericFormal) (e : Expr) → IsKept (broken.generic_actual sight e f) → IsGiven (are.generic_actual sight f e)
generic_actual_given sight f e h = generic_by_given sight e f.name f.kind h

abbrev generic_name : GenericFormal → Name
generic_name f = f.name

generics_given : (sight : Sight) (names : List Name) (as' : List Association) (gs : List GenericFormal)
    → ((j : ℕ) (f : GenericFormal) → slice_get gs j ≡ Some f → IsGiven (if_any (are.generic_actual sight f) (actual_of f.name names as')))
    → IsGiven (generic_actuals sight gs (map (λ n. actual_of n names as') (map generic_name gs)))
generics_given sight names as' [] one = this []
generics_given sight names as' (g ∷ gs) one =
    let x = one 0 g refl in
    let xs = generics_given sight names as' gs (λ j. one (suc j)) in
    bound (if_any (are.generic_actual sight g) (actual_of g.name names as')) _ x.value x.is
    (bound (generic_actuals sight gs (map (λ n. actual_of n names as') (map generic_name gs))) (λ xs. Some (x.value ∷ xs)) xs.value xs.is (this (x.value ∷ xs.value)))

-- ---- ports

-- the name of a value is left out
signal_of_actual : (sight : Sight) (n : t.Name) → IsKept (actual_signal sight n) → IsKept (sequential.signal sight n)
signal_of_actual sight n h = go (names_value (meaning sight n.identifier.text) n.suffix) h
  where
    go : (b : Bool) → IsKept (cond b (sequential.named sight n ▸ refused LeftOut n.identifier.at) (sequential.signal sight n)) → IsKept (sequential.signal sight n)
    go true h = let none = (parts (sequential.named sight n) (refused LeftOut n.identifier.at) h).1 in absurd cc
    go false h = h

port_actual_given : (sight : Sight) (f : Formal) (e : Expr) → IsKept (broken.port_actual sight f e) → IsGiven (are.port_actual sight f e)
unfolding are.port_actual
port_actual_given sight f e h =
    let k = parts _ _ h in
    let n = given LeftOut (start e) (as_name e) k.0 in
    let at : ℕ = n.value.identifier.at in
    let l = parts _ _ (of_given (λ n. actual_signal sight n
    ▸ where_given (statements.signal sight n) (λ x. unless TypeMismatch n.identifier.at (is_type f.type x.type) ▸ unless WriteOfIn n.identifier.at (may_join f.mode x.mode))) (as_name e) n.value n.is k.1) in
    let s = signal_given sight n.value (signal_of_actual sight n.value l.0) in
    let m = parts _ _ (of_given (λ x. unless TypeMismatch at (is_type f.type x.type) ▸ unless WriteOfIn at (may_join f.mode x.mode)) (statements.signal sight n.value) s.value s.is l.1) in
    bound (as_name e) _ n.value n.is
    (bound (statements.signal sight n.value) _ s.value s.is
    (ruled (is_type f.type s.value.type) _ (holds TypeMismatch at (is_type f.type s.value.type) m.0)
    (ruled (may_join f.mode s.value.mode) (Some s.value.place) (holds WriteOfIn at (may_join f.mode s.value.mode) m.1) (this s.value.place))))

abbrev port_name : Formal → Name
port_name f = f.name

ports_given : (sight : Sight) (names : List Name) (as' : List Association) (gs : List Formal)
    → ((j : ℕ) (f : Formal) → slice_get gs j ≡ Some f → IsGiven (if_any (are.port_actual sight f) (actual_of f.name names as')))
    → IsGiven (port_actuals sight gs (map (λ n. actual_of n names as') (map port_name gs)))
ports_given sight names as' [] one = this []
ports_given sight names as' (g ∷ gs) one =
    let x = one 0 g refl in
    let xs = ports_given sight names as' gs (λ j. one (suc j)) in
    bound (if_any (are.port_actual sight g) (actual_of g.name names as')) _ x.value x.is
    (bound (port_actuals sight gs (map (λ n. actual_of n names as') (map port_name gs))) (λ xs. Some (x.value ∷ xs)) xs.value xs.is (this (x.value ∷ xs.value)))

-- ---- instances

pub instance_given : (entities : List EntityView) (sight : Sight) (label : Ident) (i : t.Instance) → IsKept (broken.instance entities sight label i)
    → IsGiven (are.instance entities sight label i)
unfolding are.instance
instance_given entities sight label i h =
    let k = parts _ _ h in
    let n = instantiated_given entities sight i.unit k.0 in
    let l = parts _ _ (of_given (λ k. lacking Undeclared label.at (slice_get entities k) ▸ of_any (λ e. broken.maps sight e i) (slice_get entities k)) (are.instantiated entities sight i.unit) n.value n.is k.1) in
    let e = given Undeclared label.at (slice_get entities n.value) l.0 in
    let whole : IsKept (broken.maps sight e.value i) = ap (λ o. of_any (λ e. broken.maps sight e i) o) (sym e.is) ∙ l.1 in
    let fs : List GenericFormal = filter_map generic_formal e.value.interface.declared in
    let ps : List Formal = filter_map port_formal e.value.interface.declared in
    let m = parts (broken.generic_map sight fs (all_of i.generics)) (broken.port_map sight ps (all_of i.ports)) whole in
    let gs = associated_given (map generic_name fs) (λ n e. any_of (broken.generic_actual sight e) (generics_named fs n)) (all_of i.generics) m.0 in
    let generics =
    generics_given sight gs.names (all_of i.generics) fs
    (actual_given generic_name (λ f e. broken.generic_actual sight e f) (are.generic_actual sight) (generic_actual_given sight) fs gs.names (all_of i.generics) gs.actuals) in
    let qs = associated_given (map port_name ps) (λ n e. any_of (λ f. broken.port_actual sight f e) (ports_named ps n)) (all_of i.ports) m.1 in
    let ports =
    ports_given sight qs.names (all_of i.ports) ps (actual_given port_name (broken.port_actual sight) (are.port_actual sight) (port_actual_given sight) ps qs.names (all_of i.ports) qs.actuals) in
    bound (are.instantiated entities sight i.unit) _ n.value n.is
    (bound (slice_get entities n.value) _ e.value e.is
    (bound (are.associated (map generic_name fs) (all_of i.generics)) _ (map (λ n. actual_of n gs.names (all_of i.generics)) (map generic_name fs)) gs.is
    (bound (generic_actuals sight fs (map (λ n. actual_of n gs.names (all_of i.generics)) (map generic_name fs))) _ generics.value generics.is
    (bound (are.associated (map port_name ps) (all_of i.ports)) _ (map (λ n. actual_of n qs.names (all_of i.ports)) (map port_name ps)) qs.is
    (bound (port_actuals sight ps (map (λ n. actual_of n qs.names (all_of i.ports)) (map port_name ps))) _ ports.value ports.is (this _))))))
