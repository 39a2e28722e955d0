-- All elements of an aggregate, and what they break.
use Rattle.std.proofs.Common.{◌≡◌, ◌≢◌, ℕ, ◌+◌, ◌<◌, Bool, true, false, not, ◌||◌, List, [], ◌∷◌, ◌++◌, length, Some, None, refl, ap, sym, ◌∙◌, arith, true≢false}
use Rattle.std.specs.Prelude.{◌==◌}
use Rattle.std.specs.List.{list_all}
use Rattle.std.proofs.lemmas.Bool.Decides.{nat_tests}
use Rattle.vhdl_names_rules.specs.declared.kind.ElementKind.{ElementKind}
use Rattle.vhdl_names_rules.specs.declared.fault.NameFault.{NameFault}
use Rattle.vhdl_names_rules.specs.declared.fault.NameFault.TheVariants.{NoMemory}
use Rattle.vhdl_names_rules.specs.declared.fault.NameProblem.TheVariants.{WrongKind, TypeMismatch}
use Rattle.vhdl_names_trees.specs.declared.typed.TypedElement.{TypedElement}
use Rattle.vhdl_names_trees.specs.declared.vector.VectorElement.{VectorElement}
use Rattle.vhdl_names_trees.specs.declared.vector.VectorElement.TheVariants as v
use Rattle.vhdl_names_rules.specs.units.Expressions as u
use Rattle.vhdl_names_rules.specs.Rules.{◌>>=◌, ◌>>◌, met}
use Rattle.vhdl_names_rules.specs.Types as types
use Rattle.vhdl_names_rules.specs.Types.{Typed, TypedChoice, TypedElements}
use Rattle.vhdl_names_rules.specs.Aggregates as are
use Rattle.vhdl_names_rules.specs.Aggregates.{is_listed, is_others, is_chosen, is_place, is_local, are_arranged, are_local, have_others, have_one_choice, listed_value, element_value, indexes_of, values_of, arranged}
use Rattle.vhdl_names_trees.specs.views.Expressions.{typed_elements_view}
use Rattle.vhdl_names_trees.specs.views.Vectors.{with_element, elements_view}
use Rattle.vhdl_names_rules.specs.problems.Broken.{Broken, Tells, ◌▸◌, unless}
use Rattle.vhdl_names_rules.specs.problems.Aggregates as broken
use Rattle.vhdl_names_rules.specs.problems.Aggregates.{is_named, is_only, is_end}
use Rattle.vhdl_names_rules.proofs.laws.Rules.{kept, both}
use Rattle.vhdl_names_rules.proofs.Telling.{IsKept, kept_left, kept_right, told_left, told_same}
use Rattle.vhdl_names_rules.proofs.kept.Keeping.{mapped}
use Rattle.vhdl_names_rules.proofs.kept.Aggregates.{arranged_kept}
use Rattle.vhdl_names_operators.specs.Arranging as steps
use Rattle.vhdl_names_operators.specs.Arranging.{alone, choice_serves, choices_serve, element_view}
use Rattle.vhdl_names_operators.proofs.Arranging.{both_true, gives_none, ends, serving}

-- ---- several elements

-- an element with others behind it in place of what stands there
abbrev joined : u.Elements → u.Elements → u.Elements
joined u.no_elements ys = ys
joined (u.next x es) ys = u.next x ys
joined (u.chosen is x es) ys = u.chosen is x ys
joined (u.Elements.others x) ys = u.Elements.others x

alone_joined : (e : VectorElement) (ys : u.Elements) → joined (alone e) ys ≡ with_element e ys
alone_joined (v.Next x) ys = refl
alone_joined (v.Chosen is x) ys = refl
alone_joined (v.Others x) ys = refl

values_joined : (k : ElementKind) (cs : List TypedChoice) (at : ℕ) (x : Typed) (rest : TypedElements) (y ys : u.Elements) → steps.placed k cs x ≡ Some y → values_of k rest ≡ Some ys
    → values_of k (types.element cs at x rest) ≡ Some (joined y ys)
values_joined k [] at x rest y ys h g =
    let w = mapped (λ y. u.next y u.no_elements) (listed_value k x) y h in
    ap (λ o. o >>= λ y. values_of k rest >>= λ ys. Some (u.next y ys)) w.from
    ∙ ap (λ o. o >>= λ ys. Some (u.next w.value ys)) g
    ∙ ap (λ z. Some (joined z ys)) w.is
values_joined k (types.others p ∷ cs) at x rest y ys h g =
    let w = mapped u.Elements.others (element_value x) y h in
    ap (λ o. o >>= λ y. Some (u.Elements.others y)) w.from ∙ ap (λ z. Some (joined z ys)) w.is
values_joined k (types.place l i ∷ cs) at x rest y ys h g =
    let w = mapped (λ y. u.chosen (i ∷ indexes_of cs) y u.no_elements) (element_value x) y h in
    ap (λ o. o >>= λ y. values_of k rest >>= λ ys. Some (u.chosen (i ∷ indexes_of cs) y ys)) w.from
    ∙ ap (λ o. o >>= λ ys. Some (u.chosen (i ∷ indexes_of cs) w.value ys)) g
    ∙ ap (λ z. Some (joined z ys)) w.is

-- elements in front of others
abbrev pub before : List VectorElement → u.Elements → u.Elements
before [] ys = ys
before (x ∷ xs) ys = with_element x (before xs ys)

before_push : (xs : List VectorElement) (x : VectorElement) (ys : u.Elements) → before (xs ++ x ∷ []) ys ≡ before xs (with_element x ys)
before_push [] x ys = refl
before_push (z ∷ xs) x ys = ap (with_element z) (before_push xs x ys)

before_none : (xs : List VectorElement) → before xs u.no_elements ≡ elements_view xs
before_none [] = refl
before_none (x ∷ xs) = ap (with_element x) (before_none xs)

-- what is done, with the values of what is left, is the whole
abbrev pub Fills : ElementKind → TypedElements → List VectorElement → List TypedElement → Type 0
Fills k all done rest = (ys : u.Elements) → values_of k (typed_elements_view rest) ≡ Some ys → values_of k all ≡ Some (before done ys)

pub one_more : (k : ElementKind) (r n o last : Bool) (all : TypedElements) (done new : List VectorElement) (e : TypedElement) (rest : List TypedElement) (x : VectorElement)
    → Fills k all done (e ∷ rest) → steps.element k r n o last (element_view e) ≡ Some (alone x) → new ≡ done ++ x ∷ [] → Fills k all new rest
one_more k r n o last all done new e rest x so_far is pushed =
    λ ys h.
    let w = kept (choices_serve r n o last (element_view e).choices) (steps.placed k (element_view e).choices (element_view e).value) (alone x) is in
    so_far (with_element x ys)
    (values_joined k (element_view e).choices (element_view e).at (element_view e).value (typed_elements_view rest) (alone x) ys w.1 h ∙ ap Some (alone_joined x ys))
    ∙ ap Some (sym (before_push done x ys) ∙ ap (λ xs. before xs ys) (sym pushed))

-- ---- what elements break

-- whether an element is the last, by how many stand behind it
pub is_last : (rest : List TypedElement) (done count : ℕ) → done + (length rest + 1) ≡ count → (done + 1 == count) ≡ is_end (typed_elements_view rest)
is_last [] done count h = let e : done + 1 ≡ count = omega arith in grind (arith, nat_tests)
is_last (e ∷ rest) done count h = let lt : done + 1 < count = omega arith in grind (arith, nat_tests)

choices_end : (r n o : Bool) (cs : List TypedChoice) (at : ℕ) (rest : TypedElements) (last : Bool) → last ≡ is_end rest → broken.choices r n o cs at rest ≡ steps.choices r n o cs at last
choices_end r n o [] at rest last h = refl
choices_end r n o (types.others p ∷ []) at rest last h = ap (λ b. unless WrongKind p b ▸ unless TypeMismatch p r) (sym h ∙ sym (ends last))
choices_end r n o (types.others p ∷ (c ∷ cs)) at rest last h = refl
choices_end r n o (types.place l i ∷ cs) at rest last h = refl

associative : (x y z : Broken) → (x ▸ (y ▸ z)) ≡ ((x ▸ y) ▸ z)
unfolding ◌▸◌
associative None y z = refl
associative (Some p) y z = refl

-- those of an element, and of the ones behind it
pub breaks_first : (k : ElementKind) (r n o last : Bool) (e : TypedElement) (rest : List TypedElement) → last ≡ is_end (typed_elements_view rest)
    → broken.each r n o k (typed_elements_view (e ∷ rest)) ≡ (steps.element_breaks k r n o last (element_view e) ▸ broken.each r n o k (typed_elements_view rest))
breaks_first k r n o last e rest h =
    let x = element_view e in
    ap (λ b. b ▸ (broken.value k x.choices x.at x.value ▸ broken.each r n o k (typed_elements_view rest))) (choices_end r n o x.choices x.at (typed_elements_view rest) last h)
    ∙ associative (steps.choices r n o x.choices x.at last) (broken.value k x.choices x.at x.value) (broken.each r n o k (typed_elements_view rest))

-- what an element breaks is told, where all that stands before it breaks nothing
pub first_told : (k : ElementKind) (r n o last : Bool) (all : Broken) (e : TypedElement) (rest : List TypedElement) (f : NameFault) → all ≡ broken.each r n o k (typed_elements_view (e ∷ rest))
    → last ≡ is_end (typed_elements_view rest) → Tells (steps.element_breaks k r n o last (element_view e)) f → Tells all f
first_told k r n o last all e rest f so_far end told = told_same _ all f (sym (so_far ∙ breaks_first k r n o last e rest end)) (told_left _ _ f told)

-- ---- the whole

places_all : (o : Bool) (cs : List TypedChoice) → list_all (choice_serves o) cs ≡ true → list_all is_place cs ≡ true
places_all o [] h = refl
places_all o (types.others p ∷ cs) h = absurd cc
places_all o (types.place l i ∷ cs) h = places_all o cs (both (o || l) (list_all (choice_serves o) cs) h).1

local_all : (cs : List TypedChoice) → list_all (choice_serves false) cs ≡ true → list_all is_local cs ≡ true
local_all [] h = refl
local_all (types.others p ∷ cs) h = absurd cc
local_all (types.place l i ∷ cs) h = let k = both l (list_all (choice_serves false) cs) h in both_true l (list_all is_local cs) k.0 (local_all cs k.1)

-- of what is kept the choices of the first element, and what is behind it
choices_of : (k : ElementKind) (r n o : Bool) (cs : List TypedChoice) (at : ℕ) (x : Typed) (es : TypedElements) → IsKept (broken.each r n o k (types.element cs at x es))
    → choices_serve r n o (is_end es) cs ≡ true
choices_of k r n o cs at x es h =
    serving r n o (is_end es) cs at
    (sym (choices_end r n o cs at es (is_end es) refl) ∙ kept_left (broken.choices r n o cs at es) (broken.value k cs at x ▸ broken.each r n o k es) h)

rest_of : (k : ElementKind) (r n o : Bool) (cs : List TypedChoice) (at : ℕ) (x : Typed) (es : TypedElements) → IsKept (broken.each r n o k (types.element cs at x es))
    → IsKept (broken.each r n o k es)
rest_of k r n o cs at x es h =
    kept_right (broken.value k cs at x) (broken.each r n o k es)
    (kept_right (broken.choices r n o cs at es) (broken.value k cs at x ▸ broken.each r n o k es) h)

-- the form of all is that of the first
abbrev form_of : (is_named : Bool) → List TypedChoice → Bool
form_of true = is_chosen
form_of false = is_listed

last_formed : (r n o : Bool) (cs : List TypedChoice) → choices_serve r n o true cs ≡ true → (form_of n cs || is_others cs) ≡ true
last_formed r true o [] h = absurd cc
last_formed r false o [] h = refl
last_formed r true o (types.others p ∷ []) h = refl
last_formed r false o (types.others p ∷ []) h = refl
last_formed r true o (types.others p ∷ (c ∷ cs)) h = absurd cc
last_formed r false o (types.others p ∷ (c ∷ cs)) h = absurd cc
last_formed r true o (types.place l i ∷ cs) h = ap (λ b. b || false) (places_all o (types.place l i ∷ cs) h)
last_formed r false o (types.place l i ∷ cs) h = absurd cc

first_formed : (r n o : Bool) (cs : List TypedChoice) → choices_serve r n o false cs ≡ true → form_of n cs ≡ true
first_formed r true o [] h = absurd cc
first_formed r false o [] h = refl
first_formed r n o (types.others p ∷ []) h = absurd cc
first_formed r true o (types.others p ∷ (c ∷ cs)) h = absurd cc
first_formed r false o (types.others p ∷ (c ∷ cs)) h = absurd cc
first_formed r true o (types.place l i ∷ cs) h = places_all o (types.place l i ∷ cs) h
first_formed r false o (types.place l i ∷ cs) h = absurd cc

formed : (k : ElementKind) (r n o : Bool) (es : TypedElements) → IsKept (broken.each r n o k es) → are.are (form_of n) es ≡ true
formed k r n o types.no_elements h = refl
formed k r n o (types.element cs at x types.no_elements) h = last_formed r n o cs (choices_of k r n o cs at x types.no_elements h)
formed k r n o (types.element cs at x (types.element ds p y es)) h =
    both_true (form_of n cs) (are.are (form_of n) (types.element ds p y es))
    (first_formed r n o cs (choices_of k r n o cs at x (types.element ds p y es) h))
    (formed k r n o (types.element ds p y es) (rest_of k r n o cs at x (types.element ds p y es) h))

one_local : (r n last : Bool) (cs : List TypedChoice) → choices_serve r n false last cs ≡ true → list_all is_local cs ≡ true
one_local r n last [] h = refl
one_local r n last (types.others p ∷ []) h = refl
one_local r n last (types.others p ∷ (c ∷ cs)) h = absurd (true≢false (sym (both n false h).1))
one_local r n last (types.place l i ∷ cs) h = local_all (types.place l i ∷ cs) (both n (list_all (choice_serves false) (types.place l i ∷ cs)) h).1

all_local : (k : ElementKind) (r n : Bool) (es : TypedElements) → IsKept (broken.each r n false k es) → are_local es ≡ true
all_local k r n types.no_elements h = refl
all_local k r n (types.element cs at x es) h =
    both_true (list_all is_local cs) (are_local es)
    (one_local r n (is_end es) cs (choices_of k r n false cs at x es h))
    (all_local k r n es (rest_of k r n false cs at x es h))

either : (k : ElementKind) (r n o : Bool) (es : TypedElements) → IsKept (broken.each r n o k es) → have_one_choice es ≡ o → (are_local es || have_one_choice es) ≡ true
either k r n true es h e = ap (λ b. are_local es || b) e ∙ or_true (are_local es)
  where
    or_true : (b : Bool) → (b || true) ≡ true
    or_true true = refl
    or_true false = refl
either k r n false es h e = ap (λ b. b || have_one_choice es) (all_local k r n es h)

no_others : (n o last : Bool) (cs : List TypedChoice) → choices_serve false n o last cs ≡ true → is_others cs ≡ false
no_others n o last [] h = refl
no_others n o last (types.others p ∷ []) h = absurd (true≢false (sym (both last false h).1))
no_others n o last (types.others p ∷ (c ∷ cs)) h = refl
no_others n o last (types.place l i ∷ cs) h = refl

none_others : (k : ElementKind) (n o : Bool) (es : TypedElements) → IsKept (broken.each false n o k es) → have_others es ≡ false
none_others k n o types.no_elements h = refl
none_others k n o (types.element cs at x es) h =
    ap (λ b. b || have_others es) (no_others n o (is_end es) cs (choices_of k false n o cs at x es h))
    ∙ none_others k n o es (rest_of k false n o cs at x es h)

ranged : (k : ElementKind) (r n o : Bool) (es : TypedElements) → IsKept (broken.each r n o k es) → (r || not (have_others es)) ≡ true
ranged k true n o es h = refl
ranged k false n o es h = ap not (none_others k n o es h)

arranged_so : (n : Bool) (es : TypedElements) → are.are (form_of n) es ≡ true → are_arranged es ≡ true
arranged_so true es h = ap (λ b. are.are is_listed es || b) h ∙ or_true (are.are is_listed es)
  where
    or_true : (b : Bool) → (b || true) ≡ true
    or_true true = refl
    or_true false = refl
arranged_so false es h = ap (λ b. b || are.are is_chosen es) h

same_only : (es : TypedElements) → have_one_choice es ≡ is_only es
same_only (types.element (c ∷ []) at x types.no_elements) = refl
same_only es = refl

-- what all break, by what the first of them asks
pub same_form : (k : ElementKind) (r : Bool) (xs es : List TypedElement) (ranged named only : Bool) → xs ≡ es → ranged ≡ r → named ≡ is_named (typed_elements_view xs) → only ≡ is_only (typed_elements_view xs)
    → broken.aggregate k r (typed_elements_view es) ≡ broken.each ranged named only k (typed_elements_view es)
same_form k r xs es ranged named only same a b c =
    let all = typed_elements_view es in
    let asks = λ (ys : List TypedElement). is_named (typed_elements_view ys) in
    let one = λ (ys : List TypedElement). is_only (typed_elements_view ys) in
    sym (ap (λ x. broken.each x named only k all) a ∙ ap (λ x. broken.each r x only k all) (b ∙ ap asks same) ∙ ap (λ x. broken.each r (is_named all) x k all) (c ∙ ap one same))

-- what breaks nothing is arranged
pub arranged_of : (k : ElementKind) (r : Bool) (es : TypedElements) (ys : u.Elements) → IsKept (broken.aggregate k r es) → values_of k es ≡ Some ys → arranged k r es ≡ Some ys
arranged_of k r es ys h g =
    ap (λ b. met b >> (met (are_local es || have_one_choice es) >> (met (r || not (have_others es)) >> values_of k es))) (arranged_so (is_named es) es (formed k r (is_named es) (is_only es) es h))
    ∙ ap (λ b. met b >> (met (r || not (have_others es)) >> values_of k es)) (either k r (is_named es) (is_only es) es h (same_only es))
    ∙ ap (λ b. met b >> values_of k es) (ranged k r (is_named es) (is_only es) es h)
    ∙ g

-- all elements, where none is left
pub all_arranged : (k : ElementKind) (r : Bool) (all : TypedElements) (done : List VectorElement) → Fills k all done []
    → IsKept (broken.aggregate k r all) → arranged k r all ≡ Some (elements_view done)
all_arranged k r all done fills h = arranged_of k r all (elements_view done) h (fills u.no_elements refl ∙ ap Some (before_none done))

-- what is refused isn't arranged
pub not_arranged : (k : ElementKind) (r : Bool) (es : TypedElements) (f : NameFault) → Tells (broken.aggregate k r es) f → f ≢ NoMemory → arranged k r es ≡ None
not_arranged k r es f told n = gives_none (broken.aggregate k r es) f (arranged k r es) (arranged_kept k r es) told n
