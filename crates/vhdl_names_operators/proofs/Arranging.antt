-- The elements of an aggregate one by one.
use Rattle.std.proofs.Common.{◌≡◌, ◌≢◌, ℕ, ◌+◌, ◌<◌, ◌≤◌, Bool, true, false, not, ◌&&◌, List, [], ◌∷◌, ◌++◌, map, length, drop, get_or, Option, Some, None, refl, ap, sym, subst, ◌∙◌, arith, rules}
use Rattle.std.specs.Prelude.{◌==◌, option_map}
use Rattle.std.specs.List.{slice_get, list_all}
use Rattle.std.proofs.lemmas.Bool.Decides.{nat_tests}
use Rattle.std.proofs.lemmas.List.{at_drop_more, at_drop_all}
use Rattle.vhdl_names_rules.specs.declared.kind.ElementKind.{ElementKind}
use Rattle.vhdl_names_rules.specs.declared.fault.NameFault.{NameFault}
use Rattle.vhdl_names_rules.specs.declared.fault.NameFault.TheVariants.{At, NoMemory}
use Rattle.vhdl_names_rules.specs.declared.fault.NameProblem.{NameProblem}
use Rattle.vhdl_names_rules.specs.declared.fault.NameProblem.TheVariants.{WrongKind, TypeMismatch}
use Rattle.vhdl_names_trees.specs.declared.integer.Index.{Index}
use Rattle.vhdl_names_trees.specs.declared.typed.TypedChoice as code
use Rattle.vhdl_names_trees.specs.declared.typed.TypedChoice.TheVariants as choice
use Rattle.vhdl_names_trees.specs.declared.typed.TypedElement.{TypedElement, out-TypedElement}
use Rattle.vhdl_names_rules.specs.units.Expressions as u
use Rattle.vhdl_names_rules.specs.Rules.{◌>>◌, met}
use Rattle.vhdl_names_rules.specs.Types as types
use Rattle.vhdl_names_rules.specs.Types.{Typed, TypedChoice}
use Rattle.vhdl_names_rules.specs.Aggregates as are
use Rattle.vhdl_names_rules.specs.Aggregates.{is_listed, listed_value, element_value, indexes_of}
use Rattle.vhdl_names_trees.specs.views.Integers.{index_view}
use Rattle.vhdl_names_trees.specs.views.Expressions.{choice_view, typed_view, typed_elements_view}
use Rattle.vhdl_names_rules.specs.problems.Broken.{Broken, Tells, ◌▸◌, unless, lacking, any_of}
use Rattle.vhdl_names_rules.specs.problems.Aggregates as broken
use Rattle.vhdl_names_rules.specs.problems.Aggregates.{is_named, is_only, is_end, choice_start, value_problem}
use Rattle.vhdl_names_rules.proofs.laws.Rules.{kept, both}
use Rattle.vhdl_names_rules.proofs.Telling.{IsKept, both_kept, unless_kept, lacking_kept, kept_left, kept_right, told_left, told_right}
use Rattle.vhdl_names_rules.proofs.kept.Keeping.{nothing_kept, mapped}
use Rattle.vhdl_names_operators.specs.Arranging as steps
use Rattle.vhdl_names_operators.specs.Arranging.{behind, lone_others, choice_serves, choices_serve, OneElement}

-- ---- tests

unless_true : (p : NameProblem) (at : ℕ) (b : Bool) → IsKept (unless p at b) → b ≡ true
unless_true p at true h = refl
unless_true p at false h = absurd cc

pub both_true : (a b : Bool) → a ≡ true → b ≡ true → (a && b) ≡ true
both_true true b h k = k
both_true false b h k = h

pub not_holds : (b : Bool) → not b ≡ true → b ≡ false
not_holds true h = sym h
not_holds false h = refl

pub not_fails : (b : Bool) → not b ≡ false → b ≡ true
not_fails true h = refl
not_fails false h = sym h

-- what tells a fault isn't kept
pub not_kept : (b : Broken) (f : NameFault) → f ≢ NoMemory → Tells b f → IsKept b → ⊥
not_kept b (At p at) n told h = cc
not_kept b NoMemory n told h = n refl

-- what is refused gives nothing
pub gives_none : {A : Type 0} (b : Broken) (f : NameFault) (o : Option A) → ((x : A) → o ≡ Some x → IsKept b) → Tells b f → f ≢ NoMemory → o ≡ None
gives_none b f None h told n = refl
gives_none b f (Some x) h told n = absurd (not_kept b f n told (h x refl))

-- what doesn't hold is told, and what stands behind that which holds
pub tells_only : (p : NameProblem) (at : ℕ) (b : Bool) (f : NameFault) → b ≡ false → f ≡ At p at → Tells (unless p at b) f
tells_only p at b f fails is = subst (Tells (unless p at b)) (sym is) (ap (unless p at) fails)

pub tells_first : (p : NameProblem) (at : ℕ) (b : Bool) (rest : Broken) (f : NameFault) → b ≡ false → f ≡ At p at → Tells (unless p at b ▸ rest) f
tells_first p at b rest f fails is = told_left (unless p at b) rest f (tells_only p at b f fails is)

pub tells_second : (p : NameProblem) (at : ℕ) (b : Bool) (rest : Broken) (f : NameFault) → b ≡ true → Tells rest f → Tells (unless p at b ▸ rest) f
tells_second p at b rest f holds told = told_right (unless p at b) rest f (unless_kept p at b holds) told

-- ---- the choices of an element

-- the first of choices
pub none_first : (cs : List code.TypedChoice) → slice_get cs 0 ≡ None → cs ≡ []
none_first [] h = refl
none_first (c ∷ cs) h = absurd cc

some_first : (cs : List code.TypedChoice) (c : code.TypedChoice) → slice_get cs 0 ≡ Some c → cs ≡ c ∷ drop 1 cs
some_first [] c h = absurd cc
some_first (d ∷ cs) c h = let is : d ≡ c = cc in ap (λ x. x ∷ cs) is

pub one_choice : (cs : List code.TypedChoice) (c : code.TypedChoice) → length cs ≡ 1 → slice_get cs 0 ≡ Some c → cs ≡ c ∷ []
one_choice [] c one h = absurd cc
one_choice (d ∷ []) c one h = let is : d ≡ c = cc in ap (λ x. x ∷ []) is
one_choice (d ∷ (e ∷ cs)) c one h = absurd (omega (arith, one))

pub ends : (b : Bool) → is_end (behind b) ≡ b
ends true = refl
ends false = refl

pub choice_is : (o : Bool) (c : TypedChoice) → broken.choice o c ≡ unless WrongKind (choice_start c) (choice_serves o c)
unfolding ◌▸◌
choice_is o (types.others at) = refl
choice_is o (types.place l i) = refl

all_serve : (o : Bool) (cs : List TypedChoice) → IsKept (any_of (broken.choice o) cs) → list_all (choice_serves o) cs ≡ true
all_serve o [] h = refl
all_serve o (c ∷ cs) h =
    both_true (choice_serves o c) (list_all (choice_serves o) cs)
    (unless_true WrongKind (choice_start c) (choice_serves o c) (sym (choice_is o c) ∙ kept_left (broken.choice o c) (any_of (broken.choice o) cs) h))
    (all_serve o cs (kept_right (broken.choice o c) (any_of (broken.choice o) cs) h))

all_kept : (o : Bool) (cs : List TypedChoice) → list_all (choice_serves o) cs ≡ true → IsKept (any_of (broken.choice o) cs)
all_kept o [] h = nothing_kept
all_kept o (c ∷ cs) h =
    let k = both (choice_serves o c) (list_all (choice_serves o) cs) h in
    both_kept _ _ (choice_is o c ∙ unless_kept WrongKind (choice_start c) (choice_serves o c) k.0) (all_kept o cs k.1)

named_serve : (n o : Bool) (cs : List TypedChoice) (at : ℕ) → IsKept (unless WrongKind at n ▸ any_of (broken.choice o) cs) → (n && list_all (choice_serves o) cs) ≡ true
named_serve n o cs at h =
    both_true n (list_all (choice_serves o) cs)
    (unless_true WrongKind at n (kept_left (unless WrongKind at n) (any_of (broken.choice o) cs) h))
    (all_serve o cs (kept_right (unless WrongKind at n) (any_of (broken.choice o) cs) h))

others_serve : (r last : Bool) (p : ℕ) → IsKept (unless WrongKind p (is_end (behind last)) ▸ unless TypeMismatch p r) → (last && r) ≡ true
others_serve r true p h = unless_true TypeMismatch p r (kept_right (unless WrongKind p true) (unless TypeMismatch p r) h)
others_serve r false p h = unless_true WrongKind p false (kept_left (unless WrongKind p false) (unless TypeMismatch p r) h)

pub serving : (r n o last : Bool) (cs : List TypedChoice) (at : ℕ) → IsKept (steps.choices r n o cs at last) → choices_serve r n o last cs ≡ true
serving r n o last [] at h = unless_true WrongKind at (not n) h
serving r n o last (types.others p ∷ []) at h = others_serve r last p h
serving r n o last (types.others p ∷ (c ∷ cs)) at h = named_serve n o (types.others p ∷ (c ∷ cs)) p h
serving r n o last (types.place l i ∷ cs) at h = named_serve n o (types.place l i ∷ cs) (choice_start (types.place l i)) h

named_kept : (n o : Bool) (cs : List TypedChoice) (at : ℕ) → (n && list_all (choice_serves o) cs) ≡ true → IsKept (unless WrongKind at n ▸ any_of (broken.choice o) cs)
named_kept n o cs at h = let k = both n (list_all (choice_serves o) cs) h in both_kept _ _ (unless_kept WrongKind at n k.0) (all_kept o cs k.1)

others_kept : (r last : Bool) (p : ℕ) → (last && r) ≡ true → IsKept (unless WrongKind p (is_end (behind last)) ▸ unless TypeMismatch p r)
others_kept r true p h = both_kept _ _ nothing_kept (unless_kept TypeMismatch p r h)
others_kept r false p h = absurd cc

pub serving_kept : (r n o last : Bool) (cs : List TypedChoice) (at : ℕ) → choices_serve r n o last cs ≡ true → IsKept (steps.choices r n o cs at last)
serving_kept r n o last [] at h = unless_kept WrongKind at (not n) h
serving_kept r n o last (types.others p ∷ []) at h = others_kept r last p h
serving_kept r n o last (types.others p ∷ (c ∷ cs)) at h = named_kept n o (types.others p ∷ (c ∷ cs)) p h
serving_kept r n o last (types.place l i ∷ cs) at h = named_kept n o (types.place l i ∷ cs) (choice_start (types.place l i)) h

-- `others` alone, and other choices
pub lone_choices : (r n o last : Bool) (cs : List TypedChoice) (at p : ℕ) → lone_others cs ≡ Some p → steps.choices r n o cs at last ≡ (unless WrongKind p last ▸ unless TypeMismatch p r)
lone_choices r n o last [] at p h = absurd cc
lone_choices r n o last (types.others q ∷ []) at p h = let is : q ≡ p = cc in ap (λ b. unless WrongKind q b ▸ unless TypeMismatch q r) (ends last) ∙ ap (λ q. unless WrongKind q last ▸ unless TypeMismatch q r) is
lone_choices r n o last (types.others q ∷ (c ∷ cs)) at p h = absurd cc
lone_choices r n o last (types.place l i ∷ cs) at p h = absurd cc

pub not_lone : (cs : List code.TypedChoice) → (length cs ≡ 1 → ⊥) → None ≡ lone_others (map choice_view cs)
not_lone [] long = refl
not_lone (choice.Others at ∷ []) long = absurd (long (omega arith))
not_lone (choice.Others at ∷ (c ∷ cs)) long = refl
not_lone (choice.Place l i ∷ cs) long = refl

more_choices : (r n o last : Bool) (c : TypedChoice) (cs : List TypedChoice) (at : ℕ) → lone_others (c ∷ cs) ≡ None
    → steps.choices r n o (c ∷ cs) at last ≡ (unless WrongKind (choice_start c) n ▸ any_of (broken.choice o) (c ∷ cs))
more_choices r n o last (types.others q) [] at h = absurd cc
more_choices r n o last (types.others q) (c ∷ cs) at h = refl
more_choices r n o last (types.place l i) cs at h = refl

pub first_choices : (r n o last : Bool) (cs : List code.TypedChoice) (c : code.TypedChoice) (at : ℕ) → lone_others (map choice_view cs) ≡ None → slice_get cs 0 ≡ Some c
    → steps.choices r n o (map choice_view cs) at last ≡ (unless WrongKind (choice_start (choice_view c)) n ▸ any_of (broken.choice o) (map choice_view cs))
first_choices r n o last cs c at h first =
    let is = some_first cs c first in
    ap (λ ds. steps.choices r n o (map choice_view ds) at last) is
    ∙ more_choices r n o last (choice_view c) (map choice_view (drop 1 cs)) at (ap (λ ds. lone_others (map choice_view ds)) (sym is) ∙ h)
    ∙ ap (λ ds. unless WrongKind (choice_start (choice_view c)) n ▸ any_of (broken.choice o) (map choice_view ds)) (sym is)

pub no_choices : (r n o last : Bool) (cs : List code.TypedChoice) (at : ℕ) → slice_get cs 0 ≡ None → steps.choices r n o (map choice_view cs) at last ≡ unless WrongKind at (not n)
no_choices r n o last cs at h = ap (λ ds. steps.choices r n o (map choice_view ds) at last) (none_first cs h)

-- each choice in turn
pub next_kept : (o : Bool) (cs : List code.TypedChoice) (i : ℕ) (c : code.TypedChoice) → i < length cs → c ≡ get_or cs i c
    → any_of (broken.choice o) (map choice_view (drop i cs)) ≡ (broken.choice o (choice_view c) ▸ any_of (broken.choice o) (map choice_view (drop (i + 1) cs)))
next_kept o cs i c lt is =
    at_drop_more (λ xs. any_of (broken.choice o) (map choice_view xs)) cs i c lt
    ∙ ap (λ x. broken.choice o (choice_view x) ▸ any_of (broken.choice o) (map choice_view (drop (i + 1) cs))) (sym is)

pub none_kept : (o : Bool) (cs : List code.TypedChoice) (i : ℕ) → length cs ≤ i → IsKept (any_of (broken.choice o) (map choice_view (drop i cs)))
none_kept o cs i past = at_drop_all (λ xs. any_of (broken.choice o) (map choice_view xs)) cs i past

-- ---- the form of all, by the first element

pub first_named : (es : List TypedElement) (e : TypedElement) → slice_get es 0 ≡ Some e → not (length (out-TypedElement e).choices.items == 0) ≡ is_named (typed_elements_view es)
first_named [] e h = absurd cc
first_named (x ∷ es) e h =
    let is : x ≡ e = cc in
    ap (λ (y : TypedElement). not (length (out-TypedElement y).choices.items == 0)) (sym is) ∙ by_choices (out-TypedElement x).choices.items
  where
    by_choices : (cs : List code.TypedChoice) → not (length cs == 0) ≡ not (is_listed (map choice_view cs))
    by_choices [] = refl
    by_choices (c ∷ cs) = first_of (search rules, grind (arith, nat_tests))

pub none_named : (es : List TypedElement) → slice_get es 0 ≡ None → false ≡ is_named (typed_elements_view es)
none_named [] h = refl
none_named (x ∷ es) h = absurd cc

only_by_choices : (cs : List code.TypedChoice) (at : ℕ) (x : Typed) → (length cs == 1) ≡ is_only (types.element (map choice_view cs) at x types.no_elements)
only_by_choices [] at x = refl
only_by_choices (c ∷ []) at x = refl
only_by_choices (c ∷ d ∷ cs) at x = first_of (search rules, grind (arith, nat_tests))

pub one_only : (es : List TypedElement) (e : TypedElement) → length es ≡ 1 → e ≡ get_or es 0 e → (length (out-TypedElement e).choices.items == 1) ≡ is_only (typed_elements_view es)
one_only [] e one is = absurd (omega (arith, one))
one_only (x ∷ []) e one is =
    ap (λ (y : TypedElement). length (out-TypedElement y).choices.items == 1) is
    ∙ only_by_choices (out-TypedElement x).choices.items (out-TypedElement x).at (typed_view (out-TypedElement x).value)
one_only (x ∷ y ∷ es) e one is = absurd (omega (arith, one))

pub not_only : (es : List TypedElement) → (length es ≡ 1 → ⊥) → false ≡ is_only (typed_elements_view es)
not_only [] long = refl
not_only (x ∷ []) long = absurd (long (omega arith))
not_only (x ∷ y ∷ es) long = by_choices (map choice_view (out-TypedElement x).choices.items)
  where
    by_choices : (cs : List TypedChoice) → false ≡ is_only (types.element cs (out-TypedElement x).at (typed_view (out-TypedElement x).value) (typed_elements_view (y ∷ es)))
    by_choices [] = refl
    by_choices (c ∷ []) = refl
    by_choices (c ∷ d ∷ cs) = refl

-- ---- one element

-- the index of a choice, before those behind it
pub index_next : (c : code.TypedChoice) (l : Bool) (i : Index) (cs : List code.TypedChoice) → c ≡ choice.Place l i
    → are.indexes_of (map choice_view (c ∷ cs)) ≡ index_view i ∷ are.indexes_of (map choice_view cs)
index_next c l i cs is = ap (λ x. are.indexes_of (choice_view x ∷ map choice_view cs)) is

pub no_index : (c : code.TypedChoice) (cs : List code.TypedChoice) → ((l : Bool) (i : Index) → c ≡ choice.Place l i → ⊥)
    → are.indexes_of (map choice_view (c ∷ cs)) ≡ are.indexes_of (map choice_view cs)
no_index (choice.Others at) cs other = refl
no_index (choice.Place l i) cs other = absurd (other l i refl)

-- one more index, behind those that are done
pub index_pushed : (done new : List Index) (i : Index) (ys : List u.Index) → new ≡ done ++ i ∷ [] → (map index_view done ++ (index_view i ∷ ys)) ≡ (map index_view new ++ ys)
index_pushed done new i ys pushed = behind_done done ∙ ap (λ xs. map index_view xs ++ ys) (sym pushed)
  where
    behind_done : (done : List Index) → (map index_view done ++ (index_view i ∷ ys)) ≡ (map index_view (done ++ i ∷ []) ++ ys)
    behind_done [] = refl
    behind_done (x ∷ xs) = ap (λ zs. index_view x ∷ zs) (behind_done xs)

-- an element by its first choice
pub placed_next : (k : ElementKind) (cs : List code.TypedChoice) (x : Typed) → slice_get cs 0 ≡ None
    → steps.placed k (map choice_view cs) x ≡ option_map (λ y. u.next y u.no_elements) (listed_value k x)
placed_next k cs x h = ap (λ ds. steps.placed k (map choice_view ds) x) (none_first cs h)

pub next_breaks : (k : ElementKind) (cs : List code.TypedChoice) (at : ℕ) (x : Typed) → slice_get cs 0 ≡ None
    → broken.value k (map choice_view cs) at x ≡ lacking TypeMismatch at (listed_value k x)
next_breaks k cs at x h = ap (λ ds. broken.value k (map choice_view ds) at x) (none_first cs h)

pub placed_others : (k : ElementKind) (cs : List code.TypedChoice) (p : ℕ) (x : Typed) → slice_get cs 0 ≡ Some (choice.Others p)
    → steps.placed k (map choice_view cs) x ≡ option_map u.Elements.others (element_value x)
placed_others k cs p x h = ap (λ ds. steps.placed k (map choice_view ds) x) (some_first cs (choice.Others p) h)

pub placed_chosen : (k : ElementKind) (cs : List code.TypedChoice) (l : Bool) (i : Index) (x : Typed) → slice_get cs 0 ≡ Some (choice.Place l i)
    → steps.placed k (map choice_view cs) x ≡ option_map (λ y. u.chosen (indexes_of (map choice_view cs)) y u.no_elements) (element_value x)
placed_chosen k cs l i x h =
    ap (λ ds. steps.placed k (map choice_view ds) x) (some_first cs (choice.Place l i) h)
    ∙ ap (λ ds. option_map (λ y. u.chosen (indexes_of (map choice_view ds)) y u.no_elements) (element_value x)) (sym (some_first cs (choice.Place l i) h))

pub chosen_breaks : (k : ElementKind) (cs : List code.TypedChoice) (c : code.TypedChoice) (at : ℕ) (x : Typed) → slice_get cs 0 ≡ Some c
    → broken.value k (map choice_view cs) at x ≡ lacking (value_problem x) at (element_value x)
chosen_breaks k cs c at x h = ap (λ ds. broken.value k (map choice_view ds) at x) (some_first cs c h) ∙ by_first (choice_view c) (map choice_view (drop 1 cs))
  where
    by_first : (c : TypedChoice) (cs : List TypedChoice) → broken.value k (c ∷ cs) at x ≡ lacking (value_problem x) at (element_value x)
    by_first (types.others p) cs = refl
    by_first (types.place l i) cs = refl

pub value_kept : (k : ElementKind) (cs : List TypedChoice) (at : ℕ) (x : Typed) (y : u.Elements) → steps.placed k cs x ≡ Some y → IsKept (broken.value k cs at x)
value_kept k [] at x y h = let w = mapped _ (listed_value k x) y h in lacking_kept TypeMismatch at (listed_value k x) w.value w.from
value_kept k (types.others p ∷ cs) at x y h = let w = mapped _ (element_value x) y h in lacking_kept (value_problem x) at (element_value x) w.value w.from
value_kept k (types.place l i ∷ cs) at x y h = let w = mapped _ (element_value x) y h in lacking_kept (value_problem x) at (element_value x) w.value w.from

pub element_kept : (k : ElementKind) (r n o last : Bool) (e : OneElement) (y : u.Elements) → steps.element k r n o last e ≡ Some y → IsKept (steps.element_breaks k r n o last e)
element_kept k r n o last e y h =
    let w = kept (choices_serve r n o last e.choices) (steps.placed k e.choices e.value) y h in
    both_kept _ _ (serving_kept r n o last e.choices e.at w.0) (value_kept k e.choices e.at e.value y w.1)

-- where its choices serve, an element is its value
pub placed_is : (k : ElementKind) (r n o last : Bool) (e : OneElement) → IsKept (steps.choices r n o e.choices e.at last) → steps.element k r n o last e ≡ steps.placed k e.choices e.value
placed_is k r n o last e h = ap (λ b. met b >> steps.placed k e.choices e.value) (serving r n o last e.choices e.at h)
