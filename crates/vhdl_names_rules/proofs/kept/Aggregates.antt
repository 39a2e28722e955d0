-- An aggregate that has a type breaks no rule (IEEE 1076-2008, 9.3.3).
use Rattle.std.proofs.Common.{◌≡◌, ℕ, Bool, true, false, not, ◌&&◌, ◌||◌, List, [], ◌∷◌, Option, Some, refl, ap, sym, ◌∙◌}
use Rattle.std.specs.Prelude.{is_some}
use Rattle.std.specs.List.{list_all}
use Rattle.vhdl_names_rules.specs.declared.kind.ElementKind.{ElementKind}
use Rattle.vhdl_names_rules.specs.declared.kind.ElementKind.TheVariants.{Element}
use Rattle.vhdl_names_rules.specs.declared.kind.ObjectType.{ObjectType}
use Rattle.vhdl_names_rules.specs.declared.kind.ObjectType.TheVariants.{Elements}
use Rattle.vhdl_names_rules.specs.declared.fault.NameProblem.TheVariants.{WrongKind, TypeMismatch, LeftOut}
use Rattle.vhdl_names_rules.specs.units.Expressions as u
use Rattle.vhdl_names_rules.specs.units.Expressions.{Range, Index, Vector}
use Rattle.vhdl_names_rules.specs.units.Statements.{Given, single, filled}
use Rattle.vhdl_names_rules.specs.Rules.{then_some}
use Rattle.vhdl_names_rules.specs.Types as types
use Rattle.vhdl_names_rules.specs.Types.{Typed, TypedChoice, place, TypedElements, no_elements, element}
use Rattle.vhdl_names_rules.specs.Operators.{is_vector}
use Rattle.vhdl_names_rules.specs.Aggregates as are
use Rattle.vhdl_names_rules.specs.Aggregates.{is_listed, is_chosen, is_place, is_local, are_arranged, are_local, have_others, have_one_choice, listed_value, element_value, values_of, arranged}
use Rattle.vhdl_names_rules.specs.Expressions.{as_filled, as_composite}
use Rattle.vhdl_names_rules.specs.problems.Broken.{any_of}
use Rattle.vhdl_names_rules.specs.problems.Expressions.{is_vector_type}
use Rattle.vhdl_names_rules.specs.problems.Aggregates as broken
use Rattle.vhdl_names_rules.specs.problems.Aggregates.{choice_start, value_problem, is_named, is_only}
use Rattle.vhdl_names_rules.proofs.laws.Rules.{comes, kept, both}
use Rattle.vhdl_names_rules.proofs.Telling.{IsKept, both_kept, unless_kept, lacking_kept}
use Rattle.vhdl_names_rules.proofs.kept.Keeping.{nothing_kept, mapped}

-- ---- one of two

or_false : (a : Bool) → (a || false) ≡ true → a ≡ true
or_false true h = refl
or_false false h = h

or_other : (a b : Bool) → (a || b) ≡ true → (b || a) ≡ true
or_other true true h = refl
or_other true false h = refl
or_other false true h = refl
or_other false false h = h

or_both : (a b c : Bool) → (a || (b && c)) ≡ true → ((a || b) ≡ true) × ((a || c) ≡ true)
or_both true b c h = (refl, refl)
or_both false b c h = both b c h

-- what is there under a condition meets it
pub then_true : {A : Type 0} (b : Bool) (x y : A) → then_some b x ≡ Some y → b ≡ true
then_true true x y h = refl
then_true false x y h = absurd cc

-- ---- the form of elements

-- that of the first
abbrev form_of : (is_named : Bool) → List TypedChoice → Bool
form_of true = is_chosen
form_of false = is_listed

form_kept : (es : TypedElements) → are_arranged es ≡ true → are.are (form_of (is_named es)) es ≡ true
form_kept no_elements h = refl
form_kept (element [] at x no_elements) h = refl
form_kept (element [] at x (element ds p y es)) h = or_false (are.are is_listed (element ds p y es)) h
form_kept (element (types.others q ∷ []) at x no_elements) h = refl
form_kept (element (types.others q ∷ []) at x (element ds p y es)) h = h
form_kept (element (types.others q ∷ (c ∷ cs)) at x no_elements) h = h
form_kept (element (types.others q ∷ (c ∷ cs)) at x (element ds p y es)) h = h
form_kept (element (place l i ∷ cs) at x no_elements) h = h
form_kept (element (place l i ∷ cs) at x (element ds p y es)) h = h

form_behind : (form : List TypedChoice → Bool) (cs : List TypedChoice) (at : ℕ) (x : Typed) (es : TypedElements) → are.are form (element cs at x es) ≡ true → are.are form es ≡ true
form_behind form cs at x no_elements h = refl
form_behind form cs at x (element ds p y es) h = (both (form cs) (are.are form (element ds p y es)) h).1

form_first : (l : Bool) (i : Index) (cs : List TypedChoice) (at : ℕ) (x : Typed) (es : TypedElements) → are.are is_chosen (element (place l i ∷ cs) at x es) ≡ true
    → list_all is_place (place l i ∷ cs) ≡ true
form_first l i cs at x no_elements h = or_false (list_all is_place (place l i ∷ cs)) h
form_first l i cs at x (element ds p y es) h = (both (list_all is_place (place l i ∷ cs)) (are.are is_chosen (element ds p y es)) h).0

-- ---- the choices of one element

choices_kept : (o : Bool) (cs : List TypedChoice) → list_all is_place cs ≡ true → (o || list_all is_local cs) ≡ true → IsKept (any_of (broken.choice o) cs)
choices_kept o [] f h = nothing_kept
choices_kept o (types.others p ∷ cs) f h = absurd cc
choices_kept o (place l i ∷ cs) f h =
    let k = or_both o l (list_all is_local cs) h in
    both_kept _ _ (both_kept _ _ nothing_kept (unless_kept WrongKind (choice_start (place l i)) (o || l) k.0)) (choices_kept o cs f k.1)

-- ---- all elements

each_kept : (k : ElementKind) (b n o : Bool) (es : TypedElements) (ys : u.Elements) → are.are (form_of n) es ≡ true → (o || are_local es) ≡ true
    → (b || not (have_others es)) ≡ true → values_of k es ≡ Some ys → IsKept (broken.each b n o k es)
each_kept k b n o no_elements ys f l t h = nothing_kept
each_kept k b true o (element [] at x no_elements) ys f l t h = absurd cc
each_kept k b true o (element [] at x (element ds p y es)) ys f l t h = absurd cc
each_kept k b false o (element [] at x es) ys f l t h =
    let y = comes (listed_value k x) _ ys h in
    let zs = comes (values_of k es) _ ys y.rest in
    both_kept _ _ nothing_kept
    (both_kept _ _ (lacking_kept TypeMismatch at (listed_value k x) y.value y.is)
    (each_kept k b false o es zs.value (form_behind is_listed [] at x es f) l t zs.is))
each_kept k b n o (element (types.others p ∷ []) at x no_elements) ys f l t h =
    let y = comes (element_value x) _ ys h in
    both_kept _ _ (both_kept _ _ nothing_kept (unless_kept TypeMismatch p b (or_false b t)))
    (both_kept _ _ (lacking_kept (value_problem x) at (element_value x) y.value y.is) nothing_kept)
each_kept k b true o (element (types.others p ∷ []) at x (element ds q y es)) ys f l t h = absurd cc
each_kept k b false o (element (types.others p ∷ []) at x (element ds q y es)) ys f l t h = absurd cc
each_kept k b true o (element (types.others p ∷ (c ∷ cs)) at x no_elements) ys f l t h = absurd cc
each_kept k b true o (element (types.others p ∷ (c ∷ cs)) at x (element ds q y es)) ys f l t h = absurd cc
each_kept k b false o (element (types.others p ∷ (c ∷ cs)) at x no_elements) ys f l t h = absurd cc
each_kept k b false o (element (types.others p ∷ (c ∷ cs)) at x (element ds q y es)) ys f l t h = absurd cc
each_kept k b false o (element (place m i ∷ cs) at x no_elements) ys f l t h = absurd cc
each_kept k b false o (element (place m i ∷ cs) at x (element ds q y es)) ys f l t h = absurd cc
each_kept k b true o (element (place m i ∷ cs) at x es) ys f l t h =
    let local = or_both o (list_all is_local (place m i ∷ cs)) (are_local es) l in
    let y = comes (element_value x) _ ys h in
    let zs = comes (values_of k es) _ ys y.rest in
    both_kept _ _ (both_kept _ _ nothing_kept (choices_kept o (place m i ∷ cs) (form_first m i cs at x es f) local.0))
    (both_kept _ _ (lacking_kept (value_problem x) at (element_value x) y.value y.is)
    (each_kept k b true o es zs.value (form_behind is_chosen (place m i ∷ cs) at x es f) local.1 t zs.is))

same_only : (es : TypedElements) → have_one_choice es ≡ is_only es
same_only (element (c ∷ []) at x no_elements) = refl
same_only es = refl

pub arranged_kept : (k : ElementKind) (b : Bool) (es : TypedElements) (ys : u.Elements) → arranged k b es ≡ Some ys → IsKept (broken.aggregate k b es)
arranged_kept k b es ys h =
    let a = kept (are_arranged es) _ ys h in
    let l = kept (are_local es || have_one_choice es) _ ys a.1 in
    let t = kept (b || not (have_others es)) _ ys l.1 in
    each_kept k b (is_named es) (is_only es) es ys (form_kept es a.0)
    (ap (λ o. o || are_local es) (sym (same_only es)) ∙ or_other (are_local es) (have_one_choice es) l.0) t.0 t.1

pub aggregate_kept : (k : ElementKind) (at : ℕ) (r : Option Range) (es : TypedElements) (x : Vector) → are.aggregate k at r es ≡ Some x → IsKept (broken.aggregate k (is_some r) es)
aggregate_kept k at r es x h =
    let a = mapped (u.aggregate at r) (arranged k (is_some r) es) x h in
    arranged_kept k (is_some r) es a.value a.from

-- ---- what is given to a type

-- what is filled is a vector
pub filled_vector : (type : ObjectType) (x : Typed) (g : Given) → as_filled type x ≡ Some g → is_vector_type type ≡ true
filled_vector (Elements k) (types.elements Element x) g h = then_true (is_vector k) (filled x) g h
filled_vector _ _ g h = absurd cc

pub composite_kept : (k : ElementKind) (at : ℕ) (r : Option Range) (es : TypedElements) (g : Given) → as_composite (Elements k) at r es ≡ Some g
    → IsKept (broken.composite (Elements k) at (is_some r) es)
composite_kept k at r (element (types.others p ∷ []) q x no_elements) g h =
    both_kept _ _ (unless_kept TypeMismatch at (is_vector k) (filled_vector (Elements k) x g h)) (lacking_kept TypeMismatch q (as_filled (Elements k) x) g h)
composite_kept k at r es g h =
    let v = kept (is_vector k) _ g h in
    let c = kept (is_some r || not (is_named es)) _ g v.1 in
    let x = comes (are.aggregate k at r es) (λ x. Some (single (u.elements x))) g c.1 in
    both_kept _ _ (unless_kept TypeMismatch at (is_vector k) v.0)
    (both_kept _ _ (unless_kept LeftOut at (is_some r || not (is_named es)) c.0) (aggregate_kept k at r es x.value x.is))
