-- What the readers of choices and of the elements of aggregates make.
use Rattle.std.proofs.Common.{◌≡◌, ℕ, ◌≤◌, true, false, List, [], ◌∷◌, ◌++◌, Option, Some, None, refl, sym, ap, ◌∙◌, subst, append_assoc, append-nil, arith}
use Rattle.vhdl_lexer.specs.declared.language.Language.{Language}
use Rattle.vhdl_lexer.specs.declared.language.Language.TheVariants.{Profile, Wide}
use Rattle.vhdl_lexer.specs.declared.token.TokenKind.TheVariants as k
use Rattle.vhdl_tree.specs.declared.operator.Direction.{Direction}
use Rattle.vhdl_tree.specs.declared.operator.Direction.TheVariants.{To, Downto}
use Rattle.vhdl_tree.specs.Tree.{Expr, integer, Element, element_by, no_elements, element, elements_of, no_choices, choices_of, Choice, chosen, chosen_range, otherwise}
use Rattle.vhdl_tree.specs.Pieces.{Piece, some, one_at, spell_each, IsEach}
use Rattle.vhdl_tree.specs.grammar.Expressions.{direction_kind, spell, spell_elements, spell_more_elements, spell_more_chosen, spell_choice, IsExprIn, AreElementsIn, AreMoreElementsIn, AreChosenIn, IsChoiceIn}
use Rattle.vhdl_parser_expressions.specs.reader.Input.{Parser, expect, is_kind}
use Rattle.vhdl_parser_expressions.specs.reader.Expressions.{direction_at, choice_by, choice_from, choice_of, next_choice, chosen_element, is_choice, element_from, element_behind, element_item, next_element, element_items, inside, inner, elements}
use Rattle.vhdl_parser_expressions.proofs.CompleteElements.{bar_choice, spell_element, comma_element}
use Rattle.vhdl_parser_expressions.proofs.Walks.{Walks, Rule, w_pure, w_then, w_as, w_last, w_ends, w_before}
use Rattle.vhdl_parser_expressions.proofs.Rules.{is_neutral, w_at, w_some, w_left_at, w_right, w_choose, w_test, w_inner, w_below, below_met}
use Rattle.vhdl_parser_expressions.proofs.Repeats.{spell_behind, Behind, behind_rule}

-- the plainest expression
abbrev pub number : Expr
number = integer 0 []

pub direction_neutral : (d : Direction) → is_neutral (direction_kind d) ≡ true
direction_neutral To = refl
direction_neutral Downto = refl

-- ---- choices

module _ {n d : ℕ} (le : d ≤ n) (item : Parser Expr) where
  choice_next : Rule n d item spell (IsExprIn Wide) → (left : Expr) → IsExprIn Wide left → (o : Option Direction) → Walks n d false d (λ r. spell left ++ r) (choice_by item left o) spell_choice (IsChoiceIn Wide)
  choice_next each left good None = w_pure le (sym (append-nil (spell left))) good
  choice_next each left good (Some d) = w_some (direction_kind d) (direction_neutral d) (λ _. w_last (λ right. chosen_range left d right) each (λ right fine. (refl, (tt, good, fine))))

  -- behind an expression
  choice_behind : (language : Language) → Rule n d item spell (IsExprIn language) → (left : Expr) → IsExprIn language left → Walks n d false d (λ r. spell left ++ r) (choice_from item language left) spell_choice (IsChoiceIn language)
  unfolding choice_from
  choice_behind Profile each left good = w_pure le (sym (append-nil (spell left))) good
  choice_behind Wide each left good = w_choose (λ next. choice_next each left good (direction_at next))

  pub choice_rule : (language : Language) → Rule n d item spell (IsExprIn language) → Rule n d (choice_of item language) spell_choice (IsChoiceIn language)
  unfolding choice_of
  choice_rule language each = w_test (is_kind k.Others) (w_at k.Others refl (λ at. w_pure le refl tt)) (w_then each (λ left good _. choice_behind language each left good))

-- ---- elements

abbrev IsElement : Element → Type 0
IsElement e = AreChosenIn Wide (choices_of e.choices) × IsExprIn Wide e.value

-- further choices, and what follows the arrow
bars_are : (cs : List Choice) (ps : List Piece) → spell_more_chosen (choices_of cs) ++ ps ≡ spell_each bar_choice cs ++ (some k.Arrow ∷ ps)
bars_are [] ps = refl
bars_are (c ∷ cs) ps = ap (λ qs. some k.Bar ∷ qs)
    (append_assoc (spell_choice c) (spell_more_chosen (choices_of cs)) ps ∙ ap (λ qs. spell_choice c ++ qs) (bars_are cs ps) ∙ sym (append_assoc (spell_choice c) (spell_each bar_choice cs) (some k.Arrow ∷ ps)))

chosen_formed : (cs : List Choice) → IsEach (IsChoiceIn Wide) cs → AreChosenIn Wide (choices_of cs)
chosen_formed [] f = tt
chosen_formed (c ∷ cs) f = (f.0, chosen_formed cs f.1)

commas_are : (es : List Element) → spell_more_elements (elements_of es) ≡ spell_each comma_element es
commas_are [] = refl
commas_are (e ∷ es) = ap (λ ps. some k.Comma ∷ (spell_element e ++ ps)) (commas_are es)

elements_formed : (es : List Element) → IsEach IsElement es → AreMoreElementsIn Wide (elements_of es)
elements_formed [] f = tt
elements_formed (e ∷ es) f = (f.0.0, f.0.1, elements_formed es f.1)

module _ {n d : ℕ} (le : d ≤ n) (item : Parser Expr) (each : Rule n d item spell (IsExprIn Wide)) where
  next_choice_rule : Rule n d (next_choice item) bar_choice (IsChoiceIn Wide)
  unfolding next_choice
  next_choice_rule = w_some k.Bar refl (λ _. w_ends (λ c. refl) (λ c good. good) (choice_rule le item Wide each))

  -- an element by all its choices, of which the first one was read
  chosen_is : (first : Choice) (all : List Choice) (value : Expr) → Behind (IsChoiceIn Wide) first all → spell_element (element_by all value) ≡ spell_choice first ++ (spell_behind bar_choice all ++ (some k.Arrow ∷ spell value))
  chosen_is first all value b =
      ap (λ cs. spell_element (element_by cs value)) b.1
      ∙ append_assoc (spell_choice first) (spell_more_chosen (choices_of b.0)) (spell value)
      ∙ ap (λ ps. spell_choice first ++ ps) (bars_are b.0 (spell value))
      ∙ ap (λ cs. spell_choice first ++ (spell_behind bar_choice cs ++ (some k.Arrow ∷ spell value))) (sym b.1)

  -- behind its first choice
  chosen_rule : (first : Choice) → IsChoiceIn Wide first → Walks n d false d (λ r. spell_choice first ++ r) (chosen_element item first) spell_element IsElement
  unfolding chosen_element
  chosen_rule first good = w_then (behind_rule (is_kind k.Bar) refl le next_choice_rule (λ c. omega arith) first) (λ all b _.
      w_some k.Arrow refl (λ _. w_last (λ value. element_by all value) each (λ value fine.
      (chosen_is first all value b, (subst (λ cs. AreChosenIn Wide (choices_of cs)) (sym b.1) (good, chosen_formed b.0 b.2), fine)))))

  element_next : (first : Expr) → IsExprIn Wide first → (o : Option Direction) → Walks n d false d (λ r. spell first ++ r) (element_from item first o) spell_element IsElement
  element_next first good None = w_test is_choice (chosen_rule (chosen first) good) (w_pure le (sym (append-nil (spell first))) (tt, good))
  element_next first good (Some d) = w_inner (expect (direction_kind d)) _ (chosen_element item) (w_some (direction_kind d) (direction_neutral d) (λ _.
      w_inner item _ (chosen_element item) (w_then each (λ right fine _.
      w_before (λ ps. append_assoc (spell first) (some (direction_kind d) ∷ spell right) ps) (chosen_rule (chosen_range first d right) (tt, good, fine))))))

  element_rule : Rule n d (element_item item) spell_element IsElement
  unfolding element_item element_behind
  element_rule = w_test (is_kind k.Others)
      (w_inner (expect k.Others) _ (chosen_element item) (w_at k.Others refl (λ at. chosen_rule (otherwise at) tt)))
      (w_then each (λ first good _. w_choose (λ next. element_next first good (direction_at next))))

  next_element_rule : Rule n d (next_element item) comma_element IsElement
  unfolding next_element
  next_element_rule = w_some k.Comma refl (λ _. w_ends (λ e. refl) (λ e good. good) element_rule)

  -- all elements, of which the first one was read
  all_elements : (first : Element) → IsElement first → (all : List Element) (ps : List Piece) → Behind IsElement first all → spell_behind comma_element all ≡ ps →
      (spell_elements (elements_of all) ≡ spell_element first ++ ps) × AreElementsIn Wide (elements_of all)
  all_elements first good all ps b is = (
    ap (λ es. spell_elements (elements_of es)) b.1 ∙ ap (λ qs. spell_element first ++ qs) (commas_are b.0 ∙ sym (ap (spell_behind comma_element) b.1) ∙ is),
    subst (λ es. AreElementsIn Wide (elements_of es)) (sym b.1) (good.0, good.1, elements_formed b.0 b.2),
  )

  items_rule : Rule n d (element_items item) (λ es. spell_elements (elements_of es)) (λ es. AreElementsIn Wide (elements_of es))
  items_rule = w_then element_rule (λ first good _. w_as (all_elements first good) (behind_rule (is_kind k.Comma) refl le next_element_rule (λ e. omega arith) first))

-- ---- ( elements )

abbrev pub spell_enclosed : (ℕ × List Element) → List Piece
spell_enclosed p = one_at k.LeftParen p.0 ∷ (spell_elements (elements_of p.1) ++ some k.RightParen ∷ [])

abbrev pub AreEnclosed : (ℕ × List Element) → Type 0
AreEnclosed p = AreElementsIn Wide (elements_of p.1)

pub elements_rule : (n : ℕ) → Rule n 1 (inside Wide n) spell (IsExprIn Wide) → Rule n 0 (elements (inner Wide n)) spell_enclosed AreEnclosed
unfolding elements
elements_rule n within = w_left_at
    (λ at. record { tree = (at, element_by [] number ∷ []); more = spell_elements (element no_choices number no_elements) ++ some k.RightParen ∷ []; is = refl; formed = (tt, tt, tt) })
    (below_met _ n)
    (λ at. w_below n (λ m e.
    let opened : 1 ≤ n = omega (arith, e) in
    w_then (items_rule opened (inside Wide n) within) (λ all good le. w_right le (λ _. w_pure (omega arith) refl good))))
