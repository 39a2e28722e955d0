-- Others alone, with its value.
use Rattle.std.proofs.Common.{◌≡◌, ℕ, ◌<◌, true, false, true≢false, List, [], ◌∷◌, map, length, get_or, Ok, Err, refl, sym, ap, ◌∙◌, arith}
use Rattle.vhdl_names_trees.specs.declared.typed.TypedElement.{TypedElement, out-TypedElement}
use Rattle.vhdl_names_trees.specs.declared.typed.TypedChoice as choices
use Rattle.vhdl_names_rules.specs.Types as types
use Rattle.vhdl_names_rules.specs.Types.{Typed, TypedChoice, TypedElements}
use Rattle.vhdl_names_trees.specs.views.Expressions.{typed_view, choice_view, typed_elements_view}
use Rattle.vhdl_names_asked.specs.Givings.{is_others, are_others, is_filling, filling}
use Rattle.vhdl_names_expressions.proofs.Soles.{value_of}

pub one_others : (cs : List choices.TypedChoice) (c : choices.TypedChoice) → length cs ≡ 1 → c ≡ get_or cs 0 c → is_others (choice_view c) ≡ are_others (map choice_view cs)
one_others [] c one is = absurd (omega (arith, one))
one_others (x ∷ []) c one is = ap (λ y. is_others (choice_view y)) is
one_others (x ∷ y ∷ cs) c one is = absurd (omega (arith, one))

pub not_one_others : (cs : List choices.TypedChoice) → (length cs ≡ 1 → ⊥) → false ≡ are_others (map choice_view cs)
not_one_others [] long = refl
not_one_others (x ∷ []) long = absurd (long refl)
not_one_others (x ∷ y ∷ cs) long = refl

pub one_filling : (es : List TypedElement) (e : TypedElement) → length es ≡ 1 → e ≡ get_or es 0 e → are_others (map choice_view (out-TypedElement e).choices.items) ≡ is_filling (typed_elements_view es)
one_filling [] e one is = absurd (omega (arith, one))
one_filling (x ∷ []) e one is = ap (λ y. are_others (map choice_view (out-TypedElement y).choices.items)) is
one_filling (x ∷ y ∷ es) e one is = absurd (omega (arith, one))

pub not_one_filling : (es : List TypedElement) → (length es ≡ 1 → ⊥) → false ≡ is_filling (typed_elements_view es)
not_one_filling [] long = refl
not_one_filling (x ∷ []) long = absurd (long refl)
not_one_filling (x ∷ y ∷ es) long = refl

pub filling_first : (es : List TypedElement) → is_filling (typed_elements_view es) ≡ true → 0 < length es
filling_first [] h = absurd (true≢false (sym h))
filling_first (x ∷ es) h = omega arith

others_is : (cs : List TypedChoice) (at : ℕ) (x : Typed) → are_others cs ≡ true → filling (types.element cs at x types.no_elements) ≡ Ok (at, x)
others_is [] at x h = absurd (true≢false (sym h))
others_is (types.others p ∷ []) at x h = refl
others_is (types.place b i ∷ []) at x h = absurd (true≢false (sym h))
others_is (c ∷ d ∷ cs) at x h = absurd (true≢false (sym h))

filling_is : (cs : List TypedChoice) (at : ℕ) (x : Typed) (es : TypedElements) → is_filling (types.element cs at x es) ≡ true → filling (types.element cs at x es) ≡ Ok (at, x)
filling_is cs at x types.no_elements h = others_is cs at x h
filling_is cs at x (types.element ds p y es) h = absurd (true≢false (sym h))

pub filling_taken : (es : List TypedElement) (e : TypedElement) → is_filling (typed_elements_view es) ≡ true → e ≡ get_or es 0 e → filling (typed_elements_view es) ≡ value_of e
filling_taken [] e h is = absurd (true≢false (sym h))
filling_taken (x ∷ es) e h is =
    filling_is (map choice_view (out-TypedElement x).choices.items) (out-TypedElement x).at (typed_view (out-TypedElement x).value) (typed_elements_view es) h ∙ sym (ap value_of is)

pub not_filling : (es : TypedElements) → is_filling es ≡ false → filling es ≡ Err es
not_filling (types.element (types.others p ∷ []) at x types.no_elements) h = absurd (true≢false h)
not_filling es h = refl
