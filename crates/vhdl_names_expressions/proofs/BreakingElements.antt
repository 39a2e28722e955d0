-- What elements of an aggregate and their choices break first, one behind the other.
use Rattle.std.proofs.Common.{◌≡◌, ℕ, suc, ◌<◌, List, map, length, get_or, drop, drop-cons, Some, Result, IfErr, refl, sym, ap, subst, ◌∙◌}
use Rattle.vhdl_tree.specs.Tree as t
use Rattle.vhdl_tree.specs.Tree.{elements_of, choices_of}
use Rattle.vhdl_tree.specs.View.{choice_view, element_view}
use Rattle.vhdl_tree.specs.declared.expression.Choice.{Choice}
use Rattle.vhdl_tree.specs.declared.expression.Element.{Element}
use Rattle.vhdl_names_rules.specs.declared.fault.NameFault.{NameFault}
use Rattle.vhdl_names_rules.specs.declared.fault.NameProblem.TheVariants.{TypeMismatch}
use Rattle.vhdl_names_rules.specs.units.Expressions.{Index}
use Rattle.vhdl_names_rules.specs.Gives.{Gives}
use Rattle.vhdl_names_rules.specs.Visibility.{Sight}
use Rattle.vhdl_names_rules.specs.Types.{Typed, TypedChoice}
use Rattle.vhdl_names_rules.specs.Expressions as are
use Rattle.vhdl_names_rules.specs.problems.Broken.{Broken, Tells, refused, ◌▸◌, lacking, where_given}
use Rattle.vhdl_names_rules.specs.problems.Places.{start}
use Rattle.vhdl_names_rules.specs.problems.Expressions.{typed, typed_elements, typed_choices, typed_choice, static_range}
use Rattle.vhdl_names_rules.proofs.laws.Rules.{comes}
use Rattle.vhdl_names_rules.proofs.Telling.{IsKept, both_kept, behind_kept, told_same, told_left, told_right}
use Rattle.vhdl_names_rules.proofs.kept.Expressions.{typed_kept, typed_choices_kept, typed_choice_kept}
use Rattle.vhdl_names_expressions.specs.Elements.{typed_element, element_breaks, OneElement}
use Rattle.vhdl_names_expressions.proofs.Breaking.{in_turn, told_as, asked_of}

-- ---- a choice

-- by an index, or the range of a name
module _ (sight : Sight) (e : t.Expr) where
  abbrev index_wanted : Broken
  index_wanted = where_given (are.typed sight e) (λ x. lacking TypeMismatch (start e) (are.as_index (start e) x))

  chosen_breaks : typed_choice sight (t.chosen e) ≡ (typed sight e ▸ index_wanted)
  unfolding typed_choice
  chosen_breaks = refl

  pub chosen_first : (f : NameFault) → Tells (typed sight e) f → Tells (typed_choice sight (t.chosen e)) f
  chosen_first f h = told_same _ _ f (sym chosen_breaks) (told_left (typed sight e) index_wanted f h)

  pub chosen_told : {X : Type 0} (see : X → Index) (v : Typed) (place : ℕ) (r : Result X NameFault) → are.typed sight e ≡ Some v → place ≡ start e → Gives see (are.as_index place v) r →
      IfErr r (Tells (refused TypeMismatch place)) → IfErr r (Tells (typed_choice sight (t.chosen e)))
  chosen_told see v place r given same h k =
      told_as _ _ r (sym chosen_breaks) (asked_of sight e (are.as_index (start e)) see place v r given same (subst (λ p. Gives see (are.as_index p v) r) same h) k)

-- by a range
pub chosen_range_told : (sight : Sight) (r : t.Range) (f : NameFault) → Tells (static_range sight (t.bounds r)) f → Tells (typed_choice sight (t.chosen_range r.left r.direction r.right)) f
unfolding typed_choice
chosen_range_told sight r f h = h

-- ---- choices

-- those that are left, the next of them first
rest_choices : (sight : Sight) (cs : List Choice) (i : ℕ) (c : Choice) → i < length cs → c ≡ get_or cs i c →
    (typed_choice sight (choice_view c) ▸ typed_choices sight (choices_of (map choice_view (drop (suc i) cs)))) ≡ typed_choices sight (choices_of (map choice_view (drop i cs)))
unfolding typed_choices
rest_choices sight cs i c lt is =
    ap (λ k. typed_choice sight (choice_view k) ▸ typed_choices sight (choices_of (map choice_view (drop (suc i) cs)))) is
    ∙ sym (ap (λ l. typed_choices sight (choices_of (map choice_view l))) (drop-cons cs i c lt))

pub choice_told : (sight : Sight) (cs : List Choice) (i : ℕ) (c : Choice) (f : NameFault) → i < length cs → c ≡ get_or cs i c →
    Tells (typed_choice sight (choice_view c)) f → Tells (typed_choices sight (choices_of (map choice_view (drop i cs)))) f
choice_told sight cs i c f lt is h =
    told_same _ _ f (rest_choices sight cs i c lt is) (told_left (typed_choice sight (choice_view c)) (typed_choices sight (choices_of (map choice_view (drop (suc i) cs)))) f h)

pub choices_left : (sight : Sight) (cs : List Choice) (i j : ℕ) (c : Choice) (v : TypedChoice) → i < length cs → c ≡ get_or cs i c → suc i ≡ j → are.typed_choice sight (choice_view c) ≡ Some v →
    typed_choices sight (choices_of (map choice_view (drop i cs))) ≡ typed_choices sight (choices_of (map choice_view (drop j cs)))
choices_left sight cs i j c v lt is next given =
    sym (rest_choices sight cs i c lt is)
    ∙ behind_kept (typed_choice sight (choice_view c)) (typed_choices sight (choices_of (map choice_view (drop (suc i) cs)))) (typed_choice_kept (choice_view c) sight v given)
    ∙ ap (λ k. typed_choices sight (choices_of (map choice_view (drop k cs)))) next

-- ---- elements

element_kept : (sight : Sight) (e : t.Element) (v : OneElement) → typed_element sight e ≡ Some v → IsKept (element_breaks sight e)
element_kept sight e v h =
    let cs = comes (are.typed_choices sight (choices_of e.choices)) _ v h in
    let x = comes (are.typed sight e.value) _ v cs.rest in
    both_kept (typed_choices sight (choices_of e.choices)) (typed sight e.value) (typed_choices_kept (choices_of e.choices) sight cs.value cs.is) (typed_kept e.value sight x.value x.is)

-- its choices, and then its value
pub choices_first : (sight : Sight) (e : t.Element) (f : NameFault) → Tells (typed_choices sight (choices_of e.choices)) f → Tells (element_breaks sight e) f
choices_first sight e = told_left (typed_choices sight (choices_of e.choices)) (typed sight e.value)

pub value_behind : (sight : Sight) (e : t.Element) (cs : List TypedChoice) (f : NameFault) → are.typed_choices sight (choices_of e.choices) ≡ Some cs →
    Tells (typed sight e.value) f → Tells (element_breaks sight e) f
value_behind sight e cs f given = told_right (typed_choices sight (choices_of e.choices)) (typed sight e.value) f (typed_choices_kept (choices_of e.choices) sight cs given)

rest_elements : (sight : Sight) (es : List Element) (i : ℕ) (e : Element) → i < length es → e ≡ get_or es i e →
    (element_breaks sight (element_view e) ▸ typed_elements sight (elements_of (map element_view (drop (suc i) es)))) ≡ typed_elements sight (elements_of (map element_view (drop i es)))
unfolding typed_elements
rest_elements sight es i e lt is =
    ap (λ k. element_breaks sight (element_view k) ▸ typed_elements sight (elements_of (map element_view (drop (suc i) es)))) is
    ∙ in_turn (typed_choices sight (choices_of (element_view (get_or es i e)).choices)) (typed sight (element_view (get_or es i e)).value)
    (typed_elements sight (elements_of (map element_view (drop (suc i) es))))
    ∙ sym (ap (λ l. typed_elements sight (elements_of (map element_view l))) (drop-cons es i e lt))

pub element_told : (sight : Sight) (es : List Element) (i : ℕ) (e : Element) (f : NameFault) → i < length es → e ≡ get_or es i e →
    Tells (element_breaks sight (element_view e)) f → Tells (typed_elements sight (elements_of (map element_view (drop i es)))) f
element_told sight es i e f lt is h =
    told_same _ _ f (rest_elements sight es i e lt is) (told_left (element_breaks sight (element_view e)) (typed_elements sight (elements_of (map element_view (drop (suc i) es)))) f h)

pub elements_left : (sight : Sight) (es : List Element) (i j : ℕ) (e : Element) (v : OneElement) → i < length es → e ≡ get_or es i e → suc i ≡ j → typed_element sight (element_view e) ≡ Some v →
    typed_elements sight (elements_of (map element_view (drop i es))) ≡ typed_elements sight (elements_of (map element_view (drop j es)))
elements_left sight es i j e v lt is next given =
    sym (rest_elements sight es i e lt is)
    ∙ behind_kept (element_breaks sight (element_view e)) (typed_elements sight (elements_of (map element_view (drop (suc i) es)))) (element_kept sight (element_view e) v given)
    ∙ ap (λ k. typed_elements sight (elements_of (map element_view (drop k es)))) next
