-- What choices and elements of an aggregate are, one by one.
use Rattle.std.proofs.Common.{◌≡◌, ℕ, suc, ◌<◌, ◌≤◌, List, [], ◌∷◌, ◌++◌, map, length, get_or, drop, drop-cons, Option, Some, None, Vec, Global, refl, sym, ap, ◌∙◌}
use Rattle.std.proofs.lemmas.List.{drop_all}
use Rattle.vhdl_tree.specs.Tree as t
use Rattle.vhdl_tree.specs.Tree.{elements_of, choices_of}
use Rattle.vhdl_tree.specs.View.{element_view}
use Rattle.vhdl_tree.specs.declared.expression.Element.{Element}
use Rattle.vhdl_names_trees.specs.declared.typed.TypedElement.{TypedElement, roll-TypedElement, out-roll-TypedElement}
use Rattle.vhdl_names_trees.specs.declared.typed.TypedChoice as code
use Rattle.vhdl_names_trees.specs.declared.typed.Typed as coded
use Rattle.vhdl_names_rules.specs.units.Expressions as u
use Rattle.vhdl_names_rules.specs.Rules.{◌>>=◌, each}
use Rattle.vhdl_names_rules.specs.Visibility.{Sight}
use Rattle.vhdl_names_rules.specs.Types as types
use Rattle.vhdl_names_rules.specs.Types.{Typed, TypedChoice, TypedElements, place}
use Rattle.vhdl_names_rules.specs.Local.{is_local}
use Rattle.vhdl_names_rules.specs.Expressions.{typed, typed_elements, typed_choices, typed_choice, as_index, as_integer, static, static_range}
use Rattle.vhdl_names_trees.specs.views.Expressions.{choice_view, typed_view, typed_elements_view, with_element}
use Rattle.vhdl_names_rules.specs.problems.Places.{start}
use Rattle.vhdl_names_expressions.specs.Elements.{OneElement, one_element, one_element_view, typed_element}
use Rattle.std.specs.Prelude.{◌&&◌, option_map}

-- ---- choices

pub choices_each : (sight : Sight) (cs : List t.Choice) → typed_choices sight (choices_of cs) ≡ each (typed_choice sight) cs
unfolding typed_choices
choices_each sight [] = refl
choices_each sight (c ∷ cs) = ap (λ o. typed_choice sight c >>= λ x. (o >>= λ xs. Some (x ∷ xs))) (choices_each sight cs)

-- an index, or the name of a range
pub chosen_is : (sight : Sight) (e : t.Expr) → typed_choice sight (t.chosen e) ≡ ((typed sight e >>= as_index (start e)) >>= λ i. Some (place (is_local sight e) i))
unfolding typed_choice
chosen_is sight e = go (typed sight e)
  where
    go : (o : Option Typed) → (o >>= λ x. (as_index (start e) x >>= λ i. Some (place (is_local sight e) i))) ≡ ((o >>= as_index (start e)) >>= λ i. Some (place (is_local sight e) i))
    go None = refl
    go (Some x) = refl

-- a range is chosen by its bounds
pub chosen_range_is : (sight : Sight) (r : t.Range) → typed_choice sight (t.chosen_range r.left r.direction r.right)
    ≡ option_map (λ x. place (is_local sight r.left && is_local sight r.right) (u.indexes (start r.left) x)) (static_range sight (t.bounds r))
unfolding typed_choice static static_range
chosen_range_is sight r = go (typed sight r.left)
  where
    made : u.Static → u.Static → u.Range
    made l k = record { left = l; direction = r.direction; right = k }

    chosen : u.Range → TypedChoice
    chosen x = place (is_local sight r.left && is_local sight r.right) (u.indexes (start r.left) x)

    last : (l : u.Static) (o : Option Typed) →
        (o >>= λ y. (as_integer y >>= λ k. Some (chosen (made l k)))) ≡ option_map chosen ((o >>= as_integer) >>= λ k. Some (made l k))
    last l None = refl
    last l (Some y) = end (as_integer y)
      where
        end : (o : Option u.Static) → (o >>= λ k. Some (chosen (made l k))) ≡ option_map chosen (o >>= λ k. Some (made l k))
        end None = refl
        end (Some k) = refl

    next : (o : Option u.Static) →
        (o >>= λ l. (typed sight r.right >>= λ y. (as_integer y >>= λ k. Some (chosen (made l k)))))
        ≡ option_map chosen (o >>= λ l. ((typed sight r.right >>= as_integer) >>= λ k. Some (made l k)))
    next None = refl
    next (Some l) = last l (typed sight r.right)

    go : (o : Option Typed) →
        (o >>= λ x. (as_integer x >>= λ l. (typed sight r.right >>= λ y. (as_integer y >>= λ k. Some (chosen (made l k))))))
        ≡ option_map chosen ((o >>= as_integer) >>= λ l. ((typed sight r.right >>= as_integer) >>= λ k. Some (made l k)))
    go None = refl
    go (Some x) = next (as_integer x)

-- ---- elements

-- so many, and then these
abbrev pub before : List OneElement → TypedElements → TypedElements
before [] es = es
before (y ∷ ys) es = types.element y.choices y.at y.value (before ys es)

before_more : (ys : List OneElement) (y : OneElement) (es : TypedElements) → before (ys ++ y ∷ []) es ≡ before ys (before (y ∷ []) es)
before_more [] y es = refl
before_more (x ∷ ys) y es = ap (types.element x.choices x.at x.value) (before_more ys y es)

pub elements_viewed : (xs : List TypedElement) → typed_elements_view xs ≡ before (map one_element_view xs) types.no_elements
elements_viewed [] = refl
elements_viewed (x ∷ xs) = ap (with_element x) (elements_viewed xs)

-- one that is made of its parts
pub one_viewed : (choices : Vec code.TypedChoice Global) (at : ℕ) (value : coded.Typed) →
    one_element_view (roll-TypedElement (record { choices = choices; at = at; value = value })) ≡ one_element (map choice_view choices.items) at (typed_view value)
one_viewed choices at value =
    ap (λ r. one_element (map choice_view r.choices.items) r.at (typed_view r.value)) (out-roll-TypedElement (record { choices = choices; at = at; value = value }))

abbrev pub behind_elements : List OneElement → Option TypedElements → Option TypedElements
behind_elements ys None = None
behind_elements ys (Some es) = Some (before ys es)

pub no_elements_before : (o : Option TypedElements) → o ≡ behind_elements [] o
no_elements_before None = refl
no_elements_before (Some es) = refl

abbrev taken : Option OneElement → Option TypedElements → Option TypedElements
taken o p = o >>= λ y. (p >>= λ es. Some (before (y ∷ []) es))

-- an element, given what its choices are
abbrev pub element_by_parts : Sight → t.Element → Option (List TypedChoice) → Option OneElement
element_by_parts sight e o = o >>= λ cs. (typed sight e.value >>= λ x. Some (one_element cs (start e.value) x))

-- an element, and then those behind it
element_in_turn : (sight : Sight) (e : t.Element) (es : t.Elements) →
    typed_elements sight (t.element (choices_of e.choices) e.value es) ≡ taken (typed_element sight e) (typed_elements sight es)
unfolding typed_elements
element_in_turn sight e es = go (typed_choices sight (choices_of e.choices)) (typed sight e.value)
  where
    go : (c : Option (List TypedChoice)) (v : Option Typed) →
        (c >>= λ cs. (v >>= λ x. (typed_elements sight es >>= λ xs. Some (types.element cs (start e.value) x xs))))
        ≡ taken (c >>= λ cs. (v >>= λ x. Some (one_element cs (start e.value) x))) (typed_elements sight es)
    go None v = refl
    go (Some cs) None = refl
    go (Some cs) (Some x) = refl

element_step : (sight : Sight) (whole : Option TypedElements) (ys : List OneElement) (es : List Element) (i : ℕ) (e : Element) →
    whole ≡ behind_elements ys (typed_elements sight (elements_of (map element_view (drop i es)))) → i < length es → e ≡ get_or es i e →
    whole ≡ behind_elements ys (taken (typed_element sight (element_view e)) (typed_elements sight (elements_of (map element_view (drop (suc i) es)))))
element_step sight whole ys es i e h lt is =
    h ∙ ap (λ l. behind_elements ys (typed_elements sight (elements_of (map element_view l)))) (drop-cons es i e lt)
    ∙ ap (behind_elements ys) (element_in_turn sight (element_view (get_or es i e)) (elements_of (map element_view (drop (suc i) es))))
    ∙ ap (λ k. behind_elements ys (taken (typed_element sight (element_view k)) (typed_elements sight (elements_of (map element_view (drop (suc i) es)))))) (sym is)

pub element_fails : (sight : Sight) (whole : Option TypedElements) (ys : List OneElement) (es : List Element) (i : ℕ) (e : Element) →
    whole ≡ behind_elements ys (typed_elements sight (elements_of (map element_view (drop i es)))) → i < length es → e ≡ get_or es i e →
    typed_element sight (element_view e) ≡ None → whole ≡ None
element_fails sight whole ys es i e h lt is n =
    element_step sight whole ys es i e h lt is ∙ ap (λ o. behind_elements ys (taken o (typed_elements sight (elements_of (map element_view (drop (suc i) es)))))) n

pub element_goes : (sight : Sight) (whole : Option TypedElements) (ys : List OneElement) (es : List Element) (i : ℕ) (e : Element) (y : OneElement) →
    whole ≡ behind_elements ys (typed_elements sight (elements_of (map element_view (drop i es)))) → i < length es → e ≡ get_or es i e →
    typed_element sight (element_view e) ≡ Some y → whole ≡ behind_elements (ys ++ y ∷ []) (typed_elements sight (elements_of (map element_view (drop (suc i) es))))
element_goes sight whole ys es i e y h lt is n =
    element_step sight whole ys es i e h lt is ∙ ap (λ o. behind_elements ys (taken o (typed_elements sight (elements_of (map element_view (drop (suc i) es)))))) n
    ∙ go (typed_elements sight (elements_of (map element_view (drop (suc i) es))))
  where
    go : (o : Option TypedElements) → behind_elements ys (taken (Some y) o) ≡ behind_elements (ys ++ y ∷ []) o
    go None = refl
    go (Some zs) = ap Some (sym (before_more ys y zs))

pub elements_end : (sight : Sight) (whole : Option TypedElements) (ys : List OneElement) (es : List Element) (i : ℕ) →
    whole ≡ behind_elements ys (typed_elements sight (elements_of (map element_view (drop i es)))) → length es ≤ i → whole ≡ Some (before ys types.no_elements)
unfolding typed_elements
elements_end sight whole ys es i h le = h ∙ ap (λ l. behind_elements ys (typed_elements sight (elements_of (map element_view l)))) (drop_all i es le)
