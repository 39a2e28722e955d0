-- The elements of aggregates that are spelled are read.
use Rattle.std.proofs.Common.{◌≡◌, ℕ, ◌<◌, true, false, List, [], ◌∷◌, ◌++◌, Ok, Option, Some, None, inl, refl, sym, ap, ap₂, ◌∙◌, subst, append_assoc, append-nil, arith}
use Rattle.vhdl_lexer.specs.declared.language.Language.TheVariants.{Wide}
use Rattle.vhdl_lexer.specs.declared.token.TokenKind.{TokenKind}
use Rattle.vhdl_lexer.specs.declared.token.TokenKind.TheVariants as k
use Rattle.vhdl_tree.specs.declared.operator.Direction.{Direction}
use Rattle.vhdl_tree.specs.Lexeme.{same_kind}
use Rattle.vhdl_tree.specs.Tree.{Expr, Elements, no_elements, element, Choices, no_choices, choice, Choice, chosen, chosen_range, otherwise, Element, element_by, choices_of, elements_of}
use Rattle.vhdl_tree.specs.Pieces.{Piece, some, one_at, spell_each, IsEach}
use Rattle.vhdl_tree.specs.grammar.Expressions.{direction_kind, spell, spell_choice, spell_chosen, spell_more_chosen, spell_elements, spell_more_elements, IsExprIn, IsChoiceIn, AreChosenIn, AreElementsIn, AreMoreElementsIn}
use Rattle.vhdl_parser_expressions.specs.reader.Input.{Parser, and_then, next_kind, is_kind}
use Rattle.vhdl_parser_expressions.specs.reader.Expressions.{direction_at, choice_by, choice_from, choice_of, next_choice, chosen_element, is_choice, element_from, element_behind, element_item, next_element, element_items, elements, inside, inner}
use Rattle.vhdl_parser_expressions.proofs.Operators.{grip, is_here}
use Rattle.vhdl_parser_expressions.proofs.Yields.{yields_is}
use Rattle.vhdl_parser_expressions.proofs.Gives.{Gives, Whatever, front, front_is, g_pure, g_then, g_map, g_at, g_some, g_below, g_choose, g_yes, g_no, g_weaken, more_gives}
use Rattle.vhdl_parser_expressions.proofs.Heads.{head_is, head_alone, not_head}
use Rattle.vhdl_parser_expressions.proofs.Powers.{stops_loosely}
use Rattle.vhdl_parser_expressions.proofs.Complete.{Complete}
use Rattle.vhdl_parser_expressions.proofs.CompleteNames.{inside_reads, direction_seen}

-- nothing goes on with an expression, and no range either
abbrev pub Ends : Option TokenKind → Type 0
Ends next = grip next < 1

abbrev pub EndsBound : Option TokenKind → Type 0
EndsBound next = (grip next < 1) × (direction_at next ≡ None)

-- and what stands before is no choice
abbrev EndsElement : Option TokenKind → Type 0
EndsElement next = (grip next < 1) × (direction_at next ≡ None) × (is_choice next ≡ false)

-- each expression in them is read by each rule
abbrev pub CompleteChoice : Choice → Type 0
CompleteChoice (otherwise at) = Unit {0}
CompleteChoice (chosen e) = Complete Wide e
CompleteChoice (chosen_range left d right) = Complete Wide left × Complete Wide right

abbrev pub CompleteChoices : Choices → Type 0
CompleteChoices no_choices = Unit {0}
CompleteChoices (choice c more) = CompleteChoice c × CompleteChoices more

abbrev pub CompleteElements : Elements → Type 0
CompleteElements no_elements = Unit {0}
CompleteElements (element choices value more) = CompleteChoices choices × Complete Wide value × CompleteElements more

item_gives : (n : ℕ) (e : Expr) → Complete Wide e → IsExprIn Wide e → Gives (inside Wide n) e (spell e) Ends
item_gives n e c f = record { reads = λ ts rest h s. inside_reads Wide e c f n ts rest h (stops_loosely 1 rest (omega arith) s) }

-- ---- choices, by what reads an expression in them

module _ (item : Parser Expr) (gives : (e : Expr) → Complete Wide e → IsExprIn Wide e → Gives item e (spell e) Ends) where
  -- the right bound
  bound_gives : (left right : Expr) (d : Direction) → Complete Wide right → IsExprIn Wide right → Gives (choice_by item left (Some d)) (chosen_range left d right) (some (direction_kind d) ∷ spell right) Ends
  bound_gives left right d c f = g_some (λ _. g_map (λ x. chosen_range left d x) (gives right c f))

  -- no range goes on
  lone_gives : (e : Expr) → Gives (choice_from item Wide e) (chosen e) [] EndsBound
  unfolding choice_from
  lone_gives e = record {
    reads = λ ts rest h g.
        let d : direction_at (next_kind ts) ≡ None = ap (λ us. direction_at (next_kind us)) h ∙ g.1 in
        yields_is (ap (λ o. choice_by item e o ts) d) (inl (ap (λ us. Ok (chosen e, us)) h));
  }

  pub wide_choice : (c : Choice) → CompleteChoice c → IsChoiceIn Wide c → Gives (choice_of item Wide) c (spell_choice c) EndsBound
  unfolding choice_of choice_from same_kind
  wide_choice (otherwise at) c f = g_yes _ (is_kind k.Others) (λ next _. refl) (g_at _ g_pure)
  wide_choice (chosen e) c f = g_no _ (is_kind k.Others) (λ next _. head_alone k.Others e next refl)
      (subst (λ ps. Gives (λ ts. and_then (item ts) (choice_from item Wide)) (chosen e) ps EndsBound) (append-nil (spell e))
      (g_then (choice_from item Wide) (gives e c f) (lone_gives e) (λ next g. g.0)))
  wide_choice (chosen_range left d right) c f =
      let right_bound = g_weaken (λ next (g : EndsBound next). g.0) (bound_gives left right d c.1 f.2) in
      g_no _ (is_kind k.Others) (λ next _. ap (is_kind k.Others) (head_is left (some (direction_kind d) ∷ spell right) next) ∙ not_head k.Others left refl)
      (g_then (choice_from item Wide) (gives left c.0 f.1)
      (g_choose (λ next. choice_by item left (direction_at next)) (Some (direction_kind d)) (λ next _. refl)
      (subst (λ o. Gives (choice_by item left o) (chosen_range left d right) (some (direction_kind d) ∷ spell right) EndsBound) (sym (direction_seen d).0) right_bound))
      (λ next _. omega (arith, (direction_seen d).1)))

-- ---- the choices of an element

pub choices_list : Choices → List Choice
choices_list no_choices = []
choices_list (choice c more) = c ∷ choices_list more

pub choices_of-list : (cs : Choices) → choices_of (choices_list cs) ≡ cs
unfolding choices_list
choices_of-list no_choices = refl
choices_of-list (choice c more) = ap (choice c) (choices_of-list more)

abbrev GoodChoice : Choice → Type 0
GoodChoice c = CompleteChoice c × IsChoiceIn Wide c

good_choices : (cs : Choices) → CompleteChoices cs → AreChosenIn Wide cs → IsEach GoodChoice (choices_list cs)
unfolding choices_list
good_choices no_choices c f = tt
good_choices (choice x more) c f = ((c.0, f.0), good_choices more c.1 f.1)

abbrev pub bar_choice : Choice → List Piece
bar_choice c = some k.Bar ∷ spell_choice c

bars_are : (cs : Choices) (ps : List Piece) → spell_each bar_choice (choices_list cs) ++ (some k.Arrow ∷ ps) ≡ spell_more_chosen cs ++ ps
unfolding choices_list
bars_are no_choices ps = refl
bars_are (choice c more) ps =
    ap (λ qs. some k.Bar ∷ qs) (append_assoc (spell_choice c) (spell_each bar_choice (choices_list more)) (some k.Arrow ∷ ps)
    ∙ ap (λ qs. spell_choice c ++ qs) (bars_are more ps) ∙ sym (append_assoc (spell_choice c) (spell_more_chosen more) ps))

bar_on : (next : Option TokenKind) → is_kind k.Bar next ≡ true → EndsBound next
bar_on next h = subst EndsBound (sym (is_here k.Bar next h)) (omega arith, refl)

next_choice_gives : (n : ℕ) (c : Choice) → GoodChoice c → Gives (next_choice (inside Wide n)) c (bar_choice c) EndsBound
unfolding next_choice
next_choice_gives n c good = g_some (λ _. wide_choice (inside Wide n) (item_gives n) c good.0 good.1)

-- behind the first choice
chosen_gives : (n : ℕ) (first : Choice) (cs : Choices) (value : Expr) → CompleteChoices cs → AreChosenIn Wide cs → Complete Wide value → IsExprIn Wide value →
    Gives (chosen_element (inside Wide n) first) (element_by (first ∷ choices_list cs) value) (spell_more_chosen cs ++ spell value) Ends
unfolding chosen_element same_kind
chosen_gives n first cs value c f v g =
    subst (λ ps. Gives (chosen_element (inside Wide n) first) (element_by (first ∷ choices_list cs) value) ps Ends) (bars_are cs (spell value))
    (g_then _ (more_gives {F = EndsBound} (is_kind k.Bar) (next_choice_gives n) (λ a good next. refl) (λ a. omega arith) bar_on (choices_list cs) (good_choices cs c f) (first ∷ []))
    (g_some (λ _. g_map (λ x. element_by (first ∷ choices_list cs) x) (item_gives n value v g))) (λ next _. (refl, (omega arith, refl))))

-- ---- elements

-- a value without choices
value_gives : (n : ℕ) (value : Expr) → Gives (element_behind (inside Wide n) value) (element_by [] value) [] EndsElement
unfolding element_behind
value_gives n value = record {
  reads = λ ts rest h g.
      let d : direction_at (next_kind ts) ≡ None = ap (λ us. direction_at (next_kind us)) h ∙ g.1 in
      let value_alone : is_choice (next_kind ts) ≡ false = ap (λ us. is_choice (next_kind us)) h ∙ g.2 in
      inl (rw (d, value_alone) (ap (λ us. Ok (element_by [] value, us)) h));
}

-- what stands behind a first choice
behind_is : (cs : Choices) (ps : List Piece) (next : Option TokenKind) → (direction_at (front (spell_more_chosen cs ++ ps) next) ≡ None) × (is_choice (front (spell_more_chosen cs ++ ps) next) ≡ true)
    × (grip (front (spell_more_chosen cs ++ ps) next) ≡ 0)
unfolding same_kind
behind_is no_choices ps next = (refl, refl, refl)
behind_is (choice c more) ps next = (refl, refl, refl)

-- an expression as first choice
expr_chosen : (n : ℕ) (e : Expr) (cs : Choices) (value : Expr) → CompleteChoices cs → AreChosenIn Wide cs → Complete Wide value → IsExprIn Wide value →
    Gives (element_behind (inside Wide n) e) (element_by (chosen e ∷ choices_list cs) value) (spell_more_chosen cs ++ spell value) Ends
unfolding element_behind
expr_chosen n e cs value c f v g = record {
  reads = λ ts rest h s.
      let at_front = front_is (spell_more_chosen cs ++ spell value) ts rest h in
      let b = behind_is cs (spell value) (next_kind rest) in
      let d : direction_at (next_kind ts) ≡ None = ap direction_at at_front ∙ b.0 in
      let yes : is_choice (next_kind ts) ≡ true = ap is_choice at_front ∙ b.1 in
      rw (d, yes) ((chosen_gives n (chosen e) cs value c f v g).reads ts rest h s);
}

range_chosen : (n : ℕ) (left right : Expr) (d : Direction) (cs : Choices) (value : Expr) → Complete Wide right → IsExprIn Wide right → CompleteChoices cs → AreChosenIn Wide cs → Complete Wide value → IsExprIn Wide value →
    Gives (element_behind (inside Wide n) left) (element_by (chosen_range left d right ∷ choices_list cs) value) ((some (direction_kind d) ∷ spell right) ++ (spell_more_chosen cs ++ spell value)) Ends
unfolding element_behind
range_chosen n left right d cs value r h c f v g =
    g_choose (λ next. element_from (inside Wide n) left (direction_at next)) (Some (direction_kind d)) (λ next _. refl)
    (subst (λ o. Gives (element_from (inside Wide n) left o) (element_by (chosen_range left d right ∷ choices_list cs) value) ((some (direction_kind d) ∷ spell right) ++ (spell_more_chosen cs ++ spell value)) Ends)
    (sym (direction_seen d).0)
    (g_then (chosen_element (inside Wide n)) (bound_gives (inside Wide n) (item_gives n) left right d r h) (chosen_gives n (chosen_range left d right) cs value c f v g)
    (λ next _. let b = (behind_is cs (spell value) next).2 in omega (arith, b))))

element_gives : (n : ℕ) (cs : Choices) (value : Expr) → CompleteChoices cs → AreChosenIn Wide cs → Complete Wide value → IsExprIn Wide value →
    Gives (element_item (inside Wide n)) (element_by (choices_list cs) value) (spell_chosen cs ++ spell value) EndsElement
unfolding element_item choices_list same_kind
element_gives n no_choices value c f v g = g_no _ (is_kind k.Others) (λ next _. head_alone k.Others value next refl)
    (subst (λ ps. Gives (λ ts. and_then (inside Wide n ts) (element_behind (inside Wide n))) (element_by [] value) ps EndsElement) (append-nil (spell value))
    (g_then (element_behind (inside Wide n)) (item_gives n value v g) (value_gives n value) (λ next s. s.0)))
element_gives n (choice (otherwise at) more) value c f v g = g_weaken (λ next s. s.0)
    (g_yes _ (is_kind k.Others) (λ next _. refl)
    (g_then {F = Whatever} (chosen_element (inside Wide n)) (g_at _ g_pure) (chosen_gives n (otherwise at) more value c.1 f.1 v g) (λ next _. tt)))
element_gives n (choice (chosen e) more) value c f v g = g_weaken (λ next s. s.0)
    (subst (λ ps. Gives (element_item (inside Wide n)) (element_by (chosen e ∷ choices_list more) value) ps Ends) (sym (append_assoc (spell e) (spell_more_chosen more) (spell value)))
    (g_no _ (is_kind k.Others) (λ next _. ap (is_kind k.Others) (head_is e (spell_more_chosen more ++ spell value) next) ∙ not_head k.Others e refl)
    (g_then (element_behind (inside Wide n)) (item_gives n e c.0 f.0) (expr_chosen n e more value c.1 f.1 v g)
    (λ next _. let b = (behind_is more (spell value) next).2 in omega (arith, b)))))
element_gives n (choice (chosen_range left d right) more) value c f v g = g_weaken (λ next s. s.0)
    (subst (λ ps. Gives (element_item (inside Wide n)) (element_by (chosen_range left d right ∷ choices_list more) value) ps Ends)
    (sym (append_assoc (spell left ++ (some (direction_kind d) ∷ spell right)) (spell_more_chosen more) (spell value) ∙ append_assoc (spell left) (some (direction_kind d) ∷ spell right) (spell_more_chosen more ++ spell value)))
    (g_no _ (is_kind k.Others)
    (λ next _. ap (is_kind k.Others) (head_is left ((some (direction_kind d) ∷ spell right) ++ (spell_more_chosen more ++ spell value)) next) ∙ not_head k.Others left refl)
    (g_then (element_behind (inside Wide n)) (item_gives n left c.0.0 f.0.1) (range_chosen n left right d more value c.0.1 f.0.2 c.1 f.1 v g)
    (λ next _. omega (arith, (direction_seen d).1)))))

-- ---- all elements

pub elements_list : Elements → List Element
elements_list no_elements = []
elements_list (element cs value more) = element_by (choices_list cs) value ∷ elements_list more

pub elements_of-list : (es : Elements) → elements_of (elements_list es) ≡ es
unfolding elements_list
elements_of-list no_elements = refl
elements_of-list (element cs value more) = ap₂ (λ x y. element x value y) (choices_of-list cs) (elements_of-list more)

-- an element of the tree's list, as one of the reader's
record GoodElement (e : Element) : Type 0 where
  choices : Choices
  same : e.choices ≡ choices_list choices
  choices_read : CompleteChoices choices
  choices_formed : AreChosenIn Wide choices
  value_read : Complete Wide e.value
  value_formed : IsExprIn Wide e.value

abbrev pub spell_element : Element → List Piece
spell_element e = spell_chosen (choices_of e.choices) ++ spell e.value

abbrev pub comma_element : Element → List Piece
comma_element e = some k.Comma ∷ spell_element e

good_elements : (es : Elements) → CompleteElements es → AreMoreElementsIn Wide es → IsEach GoodElement (elements_list es)
unfolding elements_list
good_elements no_elements c f = tt
good_elements (element cs value more) c f =
    (record { choices = cs; same = refl; choices_read = c.0; choices_formed = f.0; value_read = c.1; value_formed = f.1 }, good_elements more c.2 f.2)

commas_are : (es : Elements) → spell_each comma_element (elements_list es) ≡ spell_more_elements es
unfolding elements_list
commas_are no_elements = refl
commas_are (element cs value more) =
    ap₂ (λ xs qs. some k.Comma ∷ ((spell_chosen xs ++ spell value) ++ qs)) (choices_of-list cs) (commas_are more)

comma_on : (next : Option TokenKind) → is_kind k.Comma next ≡ true → EndsElement next
unfolding same_kind
comma_on next h = subst EndsElement (sym (is_here k.Comma next h)) (omega arith, refl, refl)

next_element_gives : (n : ℕ) (e : Element) → GoodElement e → Gives (next_element (inside Wide n)) e (comma_element e) EndsElement
unfolding next_element
next_element_gives n e good =
    let one = element_gives n good.choices e.value good.choices_read good.choices_formed good.value_read good.value_formed in
    let back = ap choices_of good.same ∙ choices_of-list good.choices in
    g_some (λ _. subst (λ xs. Gives (element_item (inside Wide n)) (element_by xs e.value) (spell_element e) EndsElement) (sym good.same)
    (subst (λ cs. Gives (element_item (inside Wide n)) (element_by (choices_list good.choices) e.value) (spell_chosen cs ++ spell e.value) EndsElement) (sym back) one))

-- where `)` follows
items_give : (n : ℕ) (es : Elements) → CompleteElements es → AreElementsIn Wide es →
    Gives (element_items (inside Wide n)) (elements_list es) (spell_elements es) (λ next. (is_kind k.Comma next ≡ false) × EndsElement next)
unfolding elements_list same_kind
items_give n no_elements c f = absurd f
items_give n (element cs value more) c f =
    subst (λ qs. Gives (element_items (inside Wide n)) (elements_list (element cs value more)) ((spell_chosen cs ++ spell value) ++ qs) (λ next. (is_kind k.Comma next ≡ false) × EndsElement next)) (commas_are more)
    (g_then _ (element_gives n cs value c.0 f.0 c.1 f.1)
    (more_gives {F = EndsElement} (is_kind k.Comma) (next_element_gives n) (λ a good next. refl) (λ a. omega arith) comma_on (elements_list more) (good_elements more c.2 f.2) (element_by (choices_list cs) value ∷ []))
    (λ next g. follows (elements_list more) next g))
  where
    follows : (xs : List Element) (next : Option TokenKind) → (is_kind k.Comma next ≡ false) × EndsElement next → EndsElement (front (spell_each comma_element xs) next)
    follows [] next g = g.1
    follows (x ∷ xs) next g = (omega arith, refl, refl)

-- ( elements )
pub elements_give : (n : ℕ) (at : ℕ) (es : Elements) → CompleteElements es → AreElementsIn Wide es →
    Gives (elements (inner Wide n)) (at, elements_list es) (one_at k.LeftParen at ∷ (spell_elements es ++ some k.RightParen ∷ [])) Whatever
unfolding elements same_kind
elements_give n at es c f = g_at _ (g_below _ n (λ m e. g_then _ (items_give n es c f) (g_some (λ _. g_pure)) (λ next _. (refl, (omega arith, refl, refl)))))
