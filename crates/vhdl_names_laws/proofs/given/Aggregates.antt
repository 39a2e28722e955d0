-- An aggregate that breaks no rule is given (IEEE 1076-2008, 9.3.3).
use Rattle.std.proofs.Common.{◌≡◌, ℕ, Bool, true, false, not, ◌&&◌, ◌||◌, List, [], ◌∷◌, Option, Some, refl, ap, sym, ◌∙◌}
use Rattle.std.specs.Prelude.{is_some}
use Rattle.std.specs.List.{list_all}
use Rattle.std.proofs.lemmas.Bool.{and_from}
use Rattle.vhdl_names_rules.specs.declared.kind.ElementKind.{ElementKind}
use Rattle.vhdl_names_rules.specs.declared.kind.ObjectType.{ObjectType}
use Rattle.vhdl_names_rules.specs.declared.kind.ObjectType.TheVariants.{Elements}
use Rattle.vhdl_names_rules.specs.declared.fault.NameProblem.TheVariants.{WrongKind, TypeMismatch, LeftOut}
use Rattle.vhdl_names_rules.specs.units.Expressions as u
use Rattle.vhdl_names_rules.specs.units.Expressions.{Range}
use Rattle.vhdl_names_rules.specs.units.Statements as s
use Rattle.vhdl_names_rules.specs.Types as types
use Rattle.vhdl_names_rules.specs.Types.{Typed, TypedChoice, place, TypedElements, no_elements, element}
use Rattle.vhdl_names_rules.specs.Operators.{is_vector}
use Rattle.vhdl_names_rules.specs.Aggregates as are
use Rattle.vhdl_names_rules.specs.Aggregates.{is_listed, is_others, is_chosen, is_place, is_local, are_arranged, are_local, have_others, have_one_choice, listed_value, element_value, indexes_of, values_of, arranged, aggregate}
use Rattle.vhdl_names_rules.specs.Expressions.{as_filled, as_composite}
use Rattle.vhdl_names_rules.specs.problems.Broken.{any_of}
use Rattle.vhdl_names_rules.specs.problems.Aggregates as broken
use Rattle.vhdl_names_rules.specs.problems.Aggregates.{value_problem, is_named, is_only}
use Rattle.vhdl_names_rules.proofs.Telling.{IsKept}
use Rattle.vhdl_names_laws.proofs.given.Giving.{IsGiven, this, bound, ruled, mapped_given, parts, holds, given}

-- ---- one of two

or_true : (a : Bool) → (a || true) ≡ true
or_true true = refl
or_true false = refl

or_left : (a b : Bool) → a ≡ true → (a || b) ≡ true
or_left true b h = refl
or_left false b h = absurd cc

or_right : (a b : Bool) → b ≡ true → (a || b) ≡ true
or_right true b h = refl
or_right false b h = h

or_other : (a b : Bool) → (a || b) ≡ true → (b || a) ≡ true
or_other true b h = or_right b true refl
or_other false b h = or_left b false h

and_or : (a b c : Bool) → (a || b) ≡ true → (a || c) ≡ true → (a || (b && c)) ≡ true
and_or true b c h g = refl
and_or false b c h g = and_from b c h g

-- ---- the form of elements

-- that of the first
abbrev form_of : (is_named : Bool) → List TypedChoice → Bool
form_of true = is_chosen
form_of false = is_listed

first_form : (form : List TypedChoice → Bool) (cs : List TypedChoice) (at : ℕ) (x : Typed) (es : TypedElements) → form cs ≡ true → are.are form es ≡ true → are.are form (element cs at x es) ≡ true
first_form form cs at x no_elements h g = or_left (form cs) (is_others cs) h
first_form form cs at x (element ds p y es) h g = and_from (form cs) (are.are form (element ds p y es)) h g

arranged_is : (n : Bool) (es : TypedElements) → are.are (form_of n) es ≡ true → are_arranged es ≡ true
arranged_is true es h = or_right (are.are is_listed es) (are.are is_chosen es) h
arranged_is false es h = or_left (are.are is_listed es) (are.are is_chosen es) h

same_only : (es : TypedElements) → is_only es ≡ have_one_choice es
same_only (element (c ∷ []) at x no_elements) = refl
same_only es = refl

-- ---- the choices of one element

places_given : (o : Bool) (cs : List TypedChoice) → IsKept (any_of (broken.choice o) cs) → (list_all is_place cs ≡ true) × ((o || list_all is_local cs) ≡ true)
places_given o [] h = (refl, or_true o)
places_given o (types.others p ∷ cs) h =
    let k = parts _ _ h in
    let c = parts _ _ k.0 in
    let none = c.0 in
    absurd cc
places_given o (place l i ∷ cs) h =
    let k = parts _ _ h in
    let c = parts _ _ k.0 in
    let r = places_given o cs k.1 in
    (r.0, and_or o l (list_all is_local cs) (holds WrongKind _ (o || l) c.1) r.1)

-- ---- all elements

record AreGiven (k : ElementKind) (b n o : Bool) (es : TypedElements) : Type 0 where
  form : are.are (form_of n) es ≡ true
  local : (o || are_local es) ≡ true
  ranged : (b || not (have_others es)) ≡ true
  values : IsGiven (values_of k es)

each_given : (k : ElementKind) (b n o : Bool) (es : TypedElements) → IsKept (broken.each b n o k es) → AreGiven k b n o es
each_given k b n o no_elements h = record { form = refl; local = or_true o; ranged = or_true b; values = this u.no_elements }
each_given k b true o (element [] at x es) h =
    let p = parts _ _ h in
    let none = p.0 in
    absurd cc
each_given k b false o (element [] at x es) h =
    let p = parts _ _ h in
    let q = parts _ _ p.1 in
    let y = given TypeMismatch at (listed_value k x) q.0 in
    let r = each_given k b false o es q.1 in
    record {
      form = first_form is_listed [] at x es refl r.form;
      local = r.local;
      ranged = r.ranged;
      values = bound (listed_value k x) _ y.value y.is (bound (values_of k es) (λ ys. Some (u.next y.value ys)) r.values.value r.values.is (this (u.next y.value r.values.value)));
    }
each_given k b n o (element (types.others p ∷ []) at x no_elements) h =
    let a = parts _ _ h in
    let c = parts _ _ a.0 in
    let q = parts _ _ a.1 in
    let y = given (value_problem x) at (element_value x) q.0 in
    record {
      form = or_true (form_of n (types.others p ∷ []));
      local = or_true o;
      ranged = or_left b false (holds TypeMismatch p b c.1);
      values = bound (element_value x) (λ y. Some (u.Elements.others y)) y.value y.is (this (u.Elements.others y.value));
    }
each_given k b n o (element (types.others p ∷ []) at x (element ds q y es)) h =
    let a = parts _ _ h in
    let c = parts _ _ a.0 in
    let none = c.0 in
    absurd cc
each_given k b n o (element (types.others p ∷ (c ∷ cs)) at x es) h =
    let a = parts _ _ h in
    let l = parts _ _ a.0 in
    let m = parts _ _ l.1 in
    let d = parts _ _ m.0 in
    let none = d.0 in
    absurd cc
each_given k b n o (element (place l i ∷ cs) at x es) h =
    let a = parts _ _ h in
    let c = parts _ _ a.0 in
    let q = parts _ _ a.1 in
    let named = holds WrongKind _ n c.0 in
    let w = places_given o (place l i ∷ cs) c.1 in
    let y = given (value_problem x) at (element_value x) q.0 in
    let r = each_given k b n o es q.1 in
    record {
      form = first_form (form_of n) (place l i ∷ cs) at x es (ap (λ n. form_of n (place l i ∷ cs)) named ∙ w.0) r.form;
      local = and_or o (list_all is_local (place l i ∷ cs)) (are_local es) w.1 r.local;
      ranged = r.ranged;
      values = bound (element_value x) _ y.value y.is
          (bound (values_of k es) (λ ys. Some (u.chosen (i ∷ indexes_of cs) y.value ys)) r.values.value r.values.is (this (u.chosen (i ∷ indexes_of cs) y.value r.values.value)));
    }

arranged_given : (k : ElementKind) (b : Bool) (es : TypedElements) → IsKept (broken.aggregate k b es) → IsGiven (arranged k b es)
arranged_given k b es h =
    let g = each_given k b (is_named es) (is_only es) es h in
    let local = or_other (have_one_choice es) (are_local es) (ap (λ o. o || are_local es) (sym (same_only es)) ∙ g.local) in
    ruled (are_arranged es) _ (arranged_is (is_named es) es g.form)
    (ruled (are_local es || have_one_choice es) _ local (ruled (b || not (have_others es)) _ g.ranged g.values))

pub aggregate_given : (k : ElementKind) (at : ℕ) (r : Option Range) (es : TypedElements) → IsKept (broken.aggregate k (is_some r) es) → IsGiven (aggregate k at r es)
aggregate_given k at r es h = mapped_given (u.aggregate at r) (arranged k (is_some r) es) (arranged_given k (is_some r) es h)

-- ---- what is given to a type

pub composite_given : (type : ObjectType) (at : ℕ) (r : Option Range) (es : TypedElements) → IsKept (broken.composite type at (is_some r) es) → IsGiven (as_composite type at r es)
composite_given (Elements k) at r (element (types.others p ∷ []) q x no_elements) h = given TypeMismatch q (as_filled (Elements k) x) (parts _ _ h).1
composite_given (Elements k) at r es h =
    let c = parts _ _ h in
    let d = parts _ _ c.1 in
    let a = aggregate_given k at r es d.1 in
    ruled (is_vector k) _ (holds TypeMismatch at (is_vector k) c.0)
    (ruled (is_some r || not (is_named es)) _ (holds LeftOut at (is_some r || not (is_named es)) d.0)
    (bound (aggregate k at r es) (λ x. Some (s.single (u.elements x))) a.value a.is (this (s.single (u.elements a.value)))))
composite_given _ at r es h = absurd cc
