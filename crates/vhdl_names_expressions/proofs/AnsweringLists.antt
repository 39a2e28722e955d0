-- What loops over arguments, choices and elements answer, and what each of these is by its parts.
use Rattle.std.proofs.Common.{◌≡◌, ℕ, ◌+◌, suc, ◌<◌, ◌&&◌, Bool, List, [], ◌∷◌, ◌++◌, map, length, get_or, drop, option_map, Some, Result, Vec, Global, sym, ap, ◌∙◌, arith}
use Rattle.std.proofs.lemmas.List.{map-append}
use Rattle.vhdl_tree.specs.Tree as t
use Rattle.vhdl_tree.specs.Tree.{exprs_of, choices_of, elements_of}
use Rattle.vhdl_tree.specs.View.{view, choice_view, element_view, range_view}
use Rattle.vhdl_tree.specs.declared.expression.Expr.{Expr}
use Rattle.vhdl_tree.specs.declared.expression.Choice.{Choice}
use Rattle.vhdl_tree.specs.declared.expression.Choice.TheVariants as c
use Rattle.vhdl_tree.specs.declared.expression.Element.{Element, out-Element}
use Rattle.vhdl_tree.specs.declared.expression.Range.{Range}
use Rattle.vhdl_names_rules.specs.declared.fault.NameFault.{NameFault}
use Rattle.vhdl_names_rules.specs.declared.fault.NameProblem.TheVariants.{TypeMismatch}
use Rattle.vhdl_names_trees.specs.declared.integer.Index as index
use Rattle.vhdl_names_trees.specs.declared.typed.Typed as code
use Rattle.vhdl_names_trees.specs.declared.typed.TypedChoice as coded
use Rattle.vhdl_names_trees.specs.declared.typed.TypedElement.{TypedElement}
use Rattle.vhdl_names_rules.specs.units.Expressions as u
use Rattle.vhdl_names_rules.specs.Rules.{◌>>=◌, each}
use Rattle.vhdl_names_rules.specs.Visibility.{Sight}
use Rattle.vhdl_names_rules.specs.Types.{Typed, TypedChoice, place}
use Rattle.vhdl_names_rules.specs.Local.{is_local}
use Rattle.vhdl_names_rules.specs.Expressions as are
use Rattle.vhdl_names_trees.specs.views.Integers.{index_view}
use Rattle.vhdl_names_trees.specs.views.Expressions.{typed_view, typed_elements_view}
use Rattle.vhdl_names_trees.specs.views.Expressions.{choice_view as typed_choice_view}
use Rattle.vhdl_names_rules.specs.problems.Broken.{refused}
use Rattle.vhdl_names_rules.specs.problems.Places.{start}
use Rattle.vhdl_names_rules.specs.problems.Expressions.{typed, typed_each, typed_choice, typed_choices, typed_elements, static_range}
use Rattle.vhdl_names_rules.proofs.Along.{gives_along}
use Rattle.vhdl_names_rules.proofs.Telling.{told_same}
use Rattle.vhdl_names_expressions.specs.Elements.{chosen_index, one_element, one_element_view, typed_element, element_breaks}
use Rattle.vhdl_names_expressions.proofs.Answering.{Answer, Refusal, Passes, passed}
use Rattle.vhdl_names_expressions.proofs.BreakingForms.{each_told, each_left}
use Rattle.vhdl_names_expressions.proofs.BreakingElements.{chosen_first, chosen_told, chosen_range_told, choice_told, choices_left, choices_first, value_behind, element_told, elements_left}
use Rattle.vhdl_names_expressions.proofs.Chains.{front, each_fails as argument_fails, each_goes as argument_goes}
use Rattle.vhdl_names_expressions.proofs.Each.{behind, each_fails, each_goes}
use Rattle.vhdl_names_expressions.proofs.Elementing.{chosen_is, chosen_range_is, behind_elements, element_by_parts, element_fails, element_goes}

-- ---- arguments: what is done, and then those that are left, is the whole

module _ (sight : Sight) (es : List Expr) (done : List code.Typed) (i : ℕ) where
  abbrev ArgumentsLeft : List code.Typed → ℕ → Type 0
  ArgumentsLeft xs j =
      (are.typed_each sight (exprs_of (map view es)) ≡ front (map typed_view xs) (are.typed_each sight (exprs_of (map view (drop j es)))))
      × (typed_each sight (exprs_of (map view es)) ≡ typed_each sight (exprs_of (map view (drop j es))))

  pub arguments_passed : (e : Expr) (f : NameFault) (r : Result (Vec code.Typed Global) NameFault) → ArgumentsLeft done i → i < length es → e ≡ get_or es i e → Passes r f →
      Refusal (are.typed sight (view e)) (typed sight (view e)) f → Answer (λ v. map typed_view v.items) (are.typed_each sight (exprs_of (map view es))) (typed_each sight (exprs_of (map view es))) r
  arguments_passed e f r left lt is =
      passed (λ v. map typed_view v.items) (are.typed_each sight (exprs_of (map view es))) (typed_each sight (exprs_of (map view es))) (are.typed sight (view e)) (typed sight (view e)) f r
      (argument_fails sight (are.typed_each sight (exprs_of (map view es))) (map typed_view done) es i e left.0 lt is)
      (λ h. told_same (typed_each sight (exprs_of (map view (drop i es)))) (typed_each sight (exprs_of (map view es))) f (sym left.1) (each_told sight es i e f lt is h))

  pub arguments_go : (e : Expr) (x : code.Typed) (more : List code.Typed) → ArgumentsLeft done i → i < length es → e ≡ get_or es i e → are.typed sight (view e) ≡ Some (typed_view x) →
      more ≡ done ++ x ∷ [] → ArgumentsLeft more (i + 1)
  arguments_go e x more left lt is given same =
      let next : suc i ≡ i + 1 = omega arith in (
        argument_goes sight (are.typed_each sight (exprs_of (map view es))) (map typed_view done) es i e (typed_view x) left.0 lt is given
            ∙ ap (λ xs. front xs (are.typed_each sight (exprs_of (map view (drop (suc i) es))))) (sym (ap (map typed_view) same ∙ map-append typed_view done (x ∷ [])))
            ∙ ap (λ k. front (map typed_view more) (are.typed_each sight (exprs_of (map view (drop k es))))) next,
        left.1 ∙ each_left sight es i (i + 1) e (typed_view x) lt is next given,
      )

-- ---- choices

module _ (sight : Sight) (cs : List Choice) (done : List coded.TypedChoice) (i : ℕ) where
  abbrev ChoicesLeft : List coded.TypedChoice → ℕ → Type 0
  ChoicesLeft xs j =
      (are.typed_choices sight (choices_of (map choice_view cs)) ≡ behind (map typed_choice_view xs) (each (are.typed_choice sight) (map choice_view (drop j cs))))
      × (typed_choices sight (choices_of (map choice_view cs)) ≡ typed_choices sight (choices_of (map choice_view (drop j cs))))

  pub choices_passed : (c : Choice) (f : NameFault) (r : Result (Vec coded.TypedChoice Global) NameFault) → ChoicesLeft done i → i < length cs → c ≡ get_or cs i c → Passes r f →
      Refusal (are.typed_choice sight (choice_view c)) (typed_choice sight (choice_view c)) f →
      Answer (λ v. map typed_choice_view v.items) (are.typed_choices sight (choices_of (map choice_view cs))) (typed_choices sight (choices_of (map choice_view cs))) r
  choices_passed c f r left lt is =
      passed (λ v. map typed_choice_view v.items) (are.typed_choices sight (choices_of (map choice_view cs))) (typed_choices sight (choices_of (map choice_view cs)))
      (are.typed_choice sight (choice_view c)) (typed_choice sight (choice_view c)) f r
      (each_fails (are.typed_choice sight) choice_view (are.typed_choices sight (choices_of (map choice_view cs))) (map typed_choice_view done) cs i c left.0 lt is)
      (λ h. told_same (typed_choices sight (choices_of (map choice_view (drop i cs)))) (typed_choices sight (choices_of (map choice_view cs))) f (sym left.1) (choice_told sight cs i c f lt is h))

  pub choices_go : (c : Choice) (x : coded.TypedChoice) (more : List coded.TypedChoice) → ChoicesLeft done i → i < length cs → c ≡ get_or cs i c →
      are.typed_choice sight (choice_view c) ≡ Some (typed_choice_view x) → more ≡ done ++ x ∷ [] → ChoicesLeft more (i + 1)
  choices_go c x more left lt is given same =
      let next : suc i ≡ i + 1 = omega arith in (
        each_goes (are.typed_choice sight) choice_view (are.typed_choices sight (choices_of (map choice_view cs))) (map typed_choice_view done) cs i c (typed_choice_view x) left.0 lt is given
            ∙ ap (λ xs. behind xs (each (are.typed_choice sight) (map choice_view (drop (suc i) cs)))) (sym (ap (map typed_choice_view) same ∙ map-append typed_choice_view done (x ∷ [])))
            ∙ ap (λ k. behind (map typed_choice_view more) (each (are.typed_choice sight) (map choice_view (drop k cs)))) next,
        left.1 ∙ choices_left sight cs i (i + 1) c (typed_choice_view x) lt is next given,
      )

-- ---- elements

module _ (sight : Sight) (es : List Element) (done : List TypedElement) (i : ℕ) where
  abbrev ElementsLeft : List TypedElement → ℕ → Type 0
  ElementsLeft xs j =
      (are.typed_elements sight (elements_of (map element_view es)) ≡ behind_elements (map one_element_view xs) (are.typed_elements sight (elements_of (map element_view (drop j es)))))
      × (typed_elements sight (elements_of (map element_view es)) ≡ typed_elements sight (elements_of (map element_view (drop j es))))

  pub elements_passed : (e : Element) (f : NameFault) (r : Result (Vec TypedElement Global) NameFault) → ElementsLeft done i → i < length es → e ≡ get_or es i e → Passes r f →
      Refusal (typed_element sight (element_view e)) (element_breaks sight (element_view e)) f →
      Answer (λ v. typed_elements_view v.items) (are.typed_elements sight (elements_of (map element_view es))) (typed_elements sight (elements_of (map element_view es))) r
  elements_passed e f r left lt is =
      passed (λ v. typed_elements_view v.items) (are.typed_elements sight (elements_of (map element_view es))) (typed_elements sight (elements_of (map element_view es)))
      (typed_element sight (element_view e)) (element_breaks sight (element_view e)) f r
      (element_fails sight (are.typed_elements sight (elements_of (map element_view es))) (map one_element_view done) es i e left.0 lt is)
      (λ h. told_same (typed_elements sight (elements_of (map element_view (drop i es)))) (typed_elements sight (elements_of (map element_view es))) f (sym left.1) (element_told sight es i e f lt is h))

  pub elements_go : (e : Element) (x : TypedElement) (more : List TypedElement) → ElementsLeft done i → i < length es → e ≡ get_or es i e →
      typed_element sight (element_view e) ≡ Some (one_element_view x) → more ≡ done ++ x ∷ [] → ElementsLeft more (i + 1)
  elements_go e x more left lt is given same =
      let next : suc i ≡ i + 1 = omega arith in (
        element_goes sight (are.typed_elements sight (elements_of (map element_view es))) (map one_element_view done) es i e (one_element_view x) left.0 lt is given
            ∙ ap (λ xs. behind_elements xs (are.typed_elements sight (elements_of (map element_view (drop (suc i) es))))) (sym (ap (map one_element_view) same ∙ map-append one_element_view done (x ∷ [])))
            ∙ ap (λ k. behind_elements (map one_element_view more) (are.typed_elements sight (elements_of (map element_view (drop k es))))) next,
        left.1 ∙ elements_left sight es i (i + 1) e (one_element_view x) lt is next given,
      )

-- ---- an element: its choices, and then its value

module _ (sight : Sight) (e : Element) (cs : List Choice) (same : cs ≡ (out-Element e).choices.items) where
  choices_are : are.typed_choices sight (choices_of (element_view e).choices) ≡ are.typed_choices sight (choices_of (map choice_view cs))
  choices_are = sym (ap (λ ds. are.typed_choices sight (choices_of (map choice_view ds))) same)

  pub element_choices_passed : (f : NameFault) (r : Result TypedElement NameFault) → Passes r f →
      Refusal (are.typed_choices sight (choices_of (map choice_view cs))) (typed_choices sight (choices_of (map choice_view cs))) f →
      Answer one_element_view (typed_element sight (element_view e)) (element_breaks sight (element_view e)) r
  element_choices_passed f r =
      passed one_element_view (typed_element sight (element_view e)) (element_breaks sight (element_view e))
      (are.typed_choices sight (choices_of (map choice_view cs))) (typed_choices sight (choices_of (map choice_view cs))) f r
      (λ h. ap (element_by_parts sight (element_view e)) (choices_are ∙ h))
      (λ h. choices_first sight (element_view e) f
      (told_same (typed_choices sight (choices_of (map choice_view cs))) (typed_choices sight (choices_of (element_view e).choices)) f (ap (λ ds. typed_choices sight (choices_of (map choice_view ds))) same) h))

  pub element_value_passed : (ys : List TypedChoice) (f : NameFault) (r : Result TypedElement NameFault) → are.typed_choices sight (choices_of (map choice_view cs)) ≡ Some ys → Passes r f →
      Refusal (are.typed sight (element_view e).value) (typed sight (element_view e).value) f → Answer one_element_view (typed_element sight (element_view e)) (element_breaks sight (element_view e)) r
  element_value_passed ys f r given =
      passed one_element_view (typed_element sight (element_view e)) (element_breaks sight (element_view e)) (are.typed sight (element_view e).value) (typed sight (element_view e).value) f r
      (λ h. ap (element_by_parts sight (element_view e)) (choices_are ∙ given) ∙ ap (λ o. o >>= λ x. Some (one_element ys (start (element_view e).value) x)) h)
      (value_behind sight (element_view e) ys f (choices_are ∙ given))

  pub element_is : (ys : List TypedChoice) (x : Typed) (at : ℕ) → are.typed_choices sight (choices_of (map choice_view cs)) ≡ Some ys → are.typed sight (element_view e).value ≡ Some x →
      at ≡ start (element_view e).value → typed_element sight (element_view e) ≡ Some (one_element ys at x)
  element_is ys x at given value stands =
      ap (element_by_parts sight (element_view e)) (choices_are ∙ given) ∙ ap (λ o. o >>= λ y. Some (one_element ys (start (element_view e).value) y)) value
      ∙ ap (λ p. Some (one_element ys p x)) (sym stands)

-- ---- a choice

pub index_answers : (sight : Sight) (e : t.Expr) (v : Typed) (at : ℕ) (r : Result index.Index NameFault) → are.typed sight e ≡ Some v → at ≡ start e →
    Answer index_view (are.as_index at v) (refused TypeMismatch at) r → Answer index_view (chosen_index sight e) (typed_choice sight (t.chosen e)) r
index_answers sight e v at r given stands a = record {
  given = gives_along index_view (chosen_index sight e) (are.as_index at v) r (ap (λ o. o >>= are.as_index (start e)) given ∙ ap (λ p. are.as_index p v) (sym stands)) a.given;
  told = chosen_told sight e index_view v at r given stands a.given a.told;
}

pub index_passed : (sight : Sight) (e : t.Expr) (f : NameFault) (r : Result index.Index NameFault) → Passes r f → Refusal (are.typed sight e) (typed sight e) f →
    Answer index_view (chosen_index sight e) (typed_choice sight (t.chosen e)) r
index_passed sight e f r =
    passed index_view (chosen_index sight e) (typed_choice sight (t.chosen e)) (are.typed sight e) (typed sight e) f r (λ h. ap (λ o. o >>= are.as_index (start e)) h) (chosen_first sight e f)

module _ (sight : Sight) (d : Choice) (e : Expr) (is : d ≡ c.Expr e) where
  single_is : are.typed_choice sight (choice_view d) ≡ (chosen_index sight (view e) >>= λ i. Some (place (is_local sight (view e)) i))
  single_is = ap (λ x. are.typed_choice sight (choice_view x)) is ∙ chosen_is sight (view e)

  pub single_passed : (f : NameFault) (r : Result coded.TypedChoice NameFault) → Passes r f → Refusal (chosen_index sight (view e)) (typed_choice sight (t.chosen (view e))) f →
      Answer typed_choice_view (are.typed_choice sight (choice_view d)) (typed_choice sight (choice_view d)) r
  single_passed f r =
      passed typed_choice_view (are.typed_choice sight (choice_view d)) (typed_choice sight (choice_view d)) (chosen_index sight (view e)) (typed_choice sight (t.chosen (view e))) f r
      (λ h. single_is ∙ ap (λ o. o >>= λ i. Some (place (is_local sight (view e)) i)) h)
      (told_same (typed_choice sight (t.chosen (view e))) (typed_choice sight (choice_view d)) f (sym (ap (λ x. typed_choice sight (choice_view x)) is)))

  pub single_chosen : (i : u.Index) → chosen_index sight (view e) ≡ Some i → are.typed_choice sight (choice_view d) ≡ Some (place (is_local sight (view e)) i)
  single_chosen i given = single_is ∙ ap (λ o. o >>= λ i. Some (place (is_local sight (view e)) i)) given

module _ (sight : Sight) (d : Choice) (w : Range) (is : d ≡ c.Range w) where
  abbrev both_local : Bool
  both_local = is_local sight (view w.left) && is_local sight (view w.right)

  range_is : are.typed_choice sight (choice_view d) ≡ option_map (λ x. place both_local (u.indexes (start (view w.left)) x)) (are.static_range sight (t.bounds (range_view w)))
  range_is = ap (λ x. are.typed_choice sight (choice_view x)) is ∙ chosen_range_is sight (range_view w)

  pub range_passed : (f : NameFault) (r : Result coded.TypedChoice NameFault) → Passes r f → Refusal (are.static_range sight (t.bounds (range_view w))) (static_range sight (t.bounds (range_view w))) f →
      Answer typed_choice_view (are.typed_choice sight (choice_view d)) (typed_choice sight (choice_view d)) r
  range_passed f r =
      passed typed_choice_view (are.typed_choice sight (choice_view d)) (typed_choice sight (choice_view d)) (are.static_range sight (t.bounds (range_view w))) (static_range sight (t.bounds (range_view w))) f r
      (λ h. range_is ∙ ap (option_map (λ x. place both_local (u.indexes (start (view w.left)) x))) h)
      (λ h. told_same (typed_choice sight (t.chosen_range (view w.left) w.direction (view w.right))) (typed_choice sight (choice_view d)) f (sym (ap (λ x. typed_choice sight (choice_view x)) is))
      (chosen_range_told sight (range_view w) f h))

  pub range_chosen : (x : u.Range) (at : ℕ) → are.static_range sight (t.bounds (range_view w)) ≡ Some x → at ≡ start (view w.left) →
      are.typed_choice sight (choice_view d) ≡ Some (place both_local (u.indexes at x))
  range_chosen x at given stands =
      range_is ∙ ap (option_map (λ x. place both_local (u.indexes (start (view w.left)) x))) given ∙ ap (λ p. Some (place both_local (u.indexes p x))) (sym stands)
