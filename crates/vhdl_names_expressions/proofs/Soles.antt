-- What stands alone: a value without choices, and the name of a range.
use Rattle.std.proofs.Common.{◌≡◌, ℕ, ◌<◌, Bool, true, false, true≢false, List, [], ◌∷◌, map, length, get_or, Result, Ok, Err, Box, Global, refl, sym, ap, ◌∙◌, arith, rules}
use Rattle.std.specs.Prelude.{◌==◌}
use Rattle.std.proofs.lemmas.Bool.Decides.{nat_tests}
use Rattle.vhdl_names_trees.specs.declared.integer.StaticRange.{StaticRange}
use Rattle.vhdl_names_trees.specs.declared.typed.Typed as code
use Rattle.vhdl_names_trees.specs.declared.typed.Typed.TheVariants as variant
use Rattle.vhdl_names_trees.specs.declared.typed.TypedElement.{TypedElement, out-TypedElement}
use Rattle.vhdl_names_trees.specs.declared.typed.TypedChoice as choices
use Rattle.vhdl_names_rules.specs.Types as types
use Rattle.vhdl_names_rules.specs.Types.{Typed, TypedChoice, TypedElements, interval}
use Rattle.vhdl_names_rules.specs.Names.{arguments, range}
use Rattle.vhdl_names_rules.specs.Expressions.{suffix_of}
use Rattle.vhdl_names_trees.specs.views.Integers.{range_view}
use Rattle.vhdl_names_trees.specs.views.Expressions.{typed_view, choice_view, typed_elements_view}
use Rattle.vhdl_names_expressions.specs.Elements.{is_sole, sole_value}
use Rattle.vhdl_names_expressions.specs.Steps.{is_range, is_one_range}

-- the value of an element, and where it starts
abbrev pub value_of : TypedElement → Result (ℕ × Typed) TypedElements
value_of e = Ok ((out-TypedElement e).at, typed_view (out-TypedElement e).value)

-- ---- a value without choices

sole_of : (cs : List choices.TypedChoice) (at : ℕ) (x : Typed) → (length cs == 0) ≡ is_sole (types.element (map choice_view cs) at x types.no_elements)
sole_of [] at x = refl
sole_of (c ∷ cs) at x = first_of (search rules, grind (arith, nat_tests))

no_sole : (cs : List TypedChoice) (at : ℕ) (x : Typed) (ds : List TypedChoice) (p : ℕ) (y : Typed) (es : TypedElements) →
    false ≡ is_sole (types.element cs at x (types.element ds p y es))
no_sole [] at x ds p y es = refl
no_sole (c ∷ cs) at x ds p y es = refl

pub one_sole : (es : List TypedElement) (e : TypedElement) → length es ≡ 1 → e ≡ get_or es 0 e → (length (out-TypedElement e).choices.items == 0) ≡ is_sole (typed_elements_view es)
one_sole [] e one is = absurd (omega (arith, one))
one_sole (x ∷ []) e one is =
    ap (λ y. length (out-TypedElement y).choices.items == 0) is ∙ sole_of (out-TypedElement x).choices.items (out-TypedElement x).at (typed_view (out-TypedElement x).value)
one_sole (x ∷ y ∷ es) e one is = absurd (omega (arith, one))

pub not_one_sole : (es : List TypedElement) → (length es ≡ 1 → ⊥) → false ≡ is_sole (typed_elements_view es)
not_one_sole [] long = refl
not_one_sole (x ∷ []) long = absurd (long refl)
not_one_sole (x ∷ y ∷ es) long =
    no_sole (map choice_view (out-TypedElement x).choices.items) (out-TypedElement x).at (typed_view (out-TypedElement x).value)
    (map choice_view (out-TypedElement y).choices.items) (out-TypedElement y).at (typed_view (out-TypedElement y).value) (typed_elements_view es)

pub sole_first : (es : List TypedElement) → is_sole (typed_elements_view es) ≡ true → 0 < length es
sole_first [] h = absurd (true≢false (sym h))
sole_first (x ∷ es) h = omega arith

sole_is : (cs : List TypedChoice) (at : ℕ) (x : Typed) (es : TypedElements) → is_sole (types.element cs at x es) ≡ true → sole_value (types.element cs at x es) ≡ Ok (at, x)
sole_is [] at x types.no_elements h = refl
sole_is cs at x es h = absurd (true≢false (sym h))

pub sole_taken : (es : List TypedElement) (e : TypedElement) → is_sole (typed_elements_view es) ≡ true → e ≡ get_or es 0 e → sole_value (typed_elements_view es) ≡ value_of e
sole_taken [] e h is = absurd (true≢false (sym h))
sole_taken (x ∷ es) e h is =
    sole_is (map choice_view (out-TypedElement x).choices.items) (out-TypedElement x).at (typed_view (out-TypedElement x).value) (typed_elements_view es) h ∙ sym (ap value_of is)

pub not_sole : (es : TypedElements) → is_sole es ≡ false → sole_value es ≡ Err es
not_sole (types.element [] at x types.no_elements) h = absurd (true≢false h)
not_sole es h = refl

-- ---- the name of a range

pub one_range : (xs : List code.Typed) (x : code.Typed) → length xs ≡ 1 → x ≡ get_or xs 0 x → is_range (typed_view x) ≡ is_one_range (map typed_view xs)
one_range [] x one is = absurd (omega (arith, one))
one_range (y ∷ []) x one is = ap (λ z. is_range (typed_view z)) is
one_range (y ∷ z ∷ xs) x one is = absurd (omega (arith, one))

pub not_one_range : (xs : List code.Typed) → (length xs ≡ 1 → ⊥) → false ≡ is_one_range (map typed_view xs)
not_one_range [] long = refl
not_one_range (x ∷ []) long = absurd (long refl)
not_one_range (x ∷ y ∷ xs) long = refl

pub range_first : (xs : List code.Typed) → is_one_range (map typed_view xs) ≡ true → 0 < length xs
range_first [] h = absurd (true≢false (sym h))
range_first (x ∷ xs) h = omega arith

pub range_taken : (b : Bool) (xs : List code.Typed) (x : code.Typed) (r : Box StaticRange Global) → is_one_range (map typed_view xs) ≡ true → x ≡ get_or xs 0 x → x ≡ variant.Interval r →
    suffix_of b (map typed_view xs) ≡ range (range_view r.value)
range_taken b [] x r h first is = absurd (true≢false (sym h))
range_taken b (y ∷ []) x r h first is = ap (λ z. suffix_of b (typed_view z ∷ [])) (sym first ∙ is)
range_taken b (y ∷ z ∷ xs) x r h first is = absurd (true≢false (sym h))

no_other : (x : code.Typed) → is_range (typed_view x) ≡ true → ((r : Box StaticRange Global) → x ≡ variant.Interval r → ⊥) → ⊥
no_other (variant.Interval r) h other = other r refl
no_other x h other = true≢false (sym h)

pub range_alone : (xs : List code.Typed) (x : code.Typed) → is_one_range (map typed_view xs) ≡ true → x ≡ get_or xs 0 x → ((r : Box StaticRange Global) → x ≡ variant.Interval r → ⊥) → ⊥
range_alone [] x h first other = true≢false (sym h)
range_alone (y ∷ []) x h first other = no_other y h (λ r is. other r (first ∙ is))
range_alone (y ∷ z ∷ xs) x h first other = true≢false (sym h)

pub not_range : (b : Bool) (xs : List Typed) → is_one_range xs ≡ false → suffix_of b xs ≡ arguments b xs
not_range b (interval r ∷ []) h = absurd (true≢false h)
not_range b xs h = refl
