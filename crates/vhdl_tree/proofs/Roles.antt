-- What an expression is where it stands: parentheses or an aggregate, a value, a name.
use Rattle.std.proofs.Common.{◌≡◌, ℕ, ◌==◌, Bool, true, false, true≢false, List, [], ◌∷◌, ◌++◌, length, length-append, get_or, map, None, Vec, Global, refl, sym, ap, ◌∙◌, subst, rules, arith}
use Rattle.std.proofs.lemmas.Bool.Decides.{nat_tests}
use mathlib.Core.Bool.{false≢true}
use Rattle.vhdl_tree.specs.declared.expression.Chain.{Chain, out-Chain}
use Rattle.vhdl_tree.specs.declared.expression.Expr.{Expr, roll-Expr, roll-out-Expr}
use Rattle.vhdl_tree.specs.declared.expression.Expr.TheVariants as e
use Rattle.vhdl_tree.specs.declared.expression.Expr.TheVariants.{outs-Aggregate', rolls-Aggregate}
use Rattle.vhdl_tree.specs.declared.expression.Choice.TheBlock.{shown-the_row-Element-1}
use Rattle.vhdl_tree.specs.declared.expression.Name.{Name}
use Rattle.vhdl_tree.specs.declared.expression.Element as d
use Rattle.vhdl_tree.specs.declared.expression.Choice as h
use Rattle.vhdl_tree.specs.declared.operator.Operator.{Operator}
use Rattle.vhdl_tree.specs.Tree as t
use Rattle.vhdl_tree.specs.Tree.{Pair, Elements, no_elements, element, Choices, no_choices, choice, Choice, chosen, chosen_range, otherwise, all_joined, choices_of, elements_of, single, others, is_lone, enclosed, is_fill, value_of, name_of}
use Rattle.vhdl_tree.specs.View.{view, pair_view, chain_view, choice_view, element_view}
use Rattle.vhdl_tree.proofs.Rows.{chain_is}
use Rattle.vhdl_tree.proofs.RowsElements.{view_aggregate}

-- ---- chains

-- what holds of each binary operation holds of a chain
chain_has : (P : t.Expr → Type 0) → ((b : Bool) (op : Operator) (at : ℕ) (x y : t.Expr) → P (t.binary b op at x y)) →
    (b : Bool) (op : Operator) (at : ℕ) (x y : t.Expr) (ps : List Pair) → P (all_joined (t.binary b op at x y) ps)
chain_has P each b op at x y [] = each b op at x y
chain_has P each b op at x y (p ∷ ps) = chain_has P each false p.operator p.at (t.binary b op at x y) p.operand ps

of_chain : (P : t.Expr → Type 0) → ((b : Bool) (op : Operator) (at : ℕ) (x y : t.Expr) → P (t.binary b op at x y)) → (chain : Chain) → P (chain_view chain)
of_chain P each chain =
    let c = out-Chain chain in
    subst P (sym (chain_is chain)) (chain_has P each true c.second.operator c.second.at (view c.first) (view c.second.operand) (map pair_view c.rest.items))

chain_is_no_name : (chain : Chain) → None ≡ name_of (chain_view chain)
chain_is_no_name = of_chain (λ e. None ≡ name_of e) (λ b op at x y. refl)

chain_is_single : (chain : Chain) → single (chain_view chain) ≡ value_of (chain_view chain)
chain_is_single = of_chain (λ e. single e ≡ value_of e) (λ b op at x y. refl)

-- ---- ( elements )

pub alone : (xs : List d.Element) (x : d.Element) → length xs ≡ 1 → x ≡ get_or xs 0 x → xs ≡ x ∷ []
alone [] x one is = absurd (omega (arith, one))
alone (y ∷ []) x one is = ap (λ z. z ∷ []) (sym is)
alone (y ∷ z ∷ xs) x one is = absurd (omega (arith, one))

-- more than one, or none
pub no_lone : (xs : List d.Element) → (length xs ≡ 1 → ⊥) → false ≡ is_lone (elements_of (map element_view xs))
no_lone [] long = refl
no_lone (x ∷ []) long = absurd (long (omega arith))
no_lone (x ∷ y ∷ xs) long = by_choices (choices_of (element_view x).choices)
  where
    by_choices : (cs : Choices) → false ≡ is_lone (element cs (element_view x).value (elements_of (map element_view (y ∷ xs))))
    by_choices no_choices = refl
    by_choices (choice c cs) = refl

pub lone_by_choices : (x : d.Element) → (length x.choices.items == 0) ≡ is_lone (elements_of (map element_view (x ∷ [])))
lone_by_choices x = by_choices x.choices.items
  where
    by_choices : (cs : List h.Choice) → (length cs == 0) ≡ is_lone (element (choices_of (map choice_view cs)) (element_view x).value no_elements)
    by_choices [] = refl
    by_choices (c ∷ cs) = first_of (search rules, grind (arith, nat_tests))

pub lone_enclosed : (at : ℕ) (x : d.Element) → true ≡ is_lone (elements_of (map element_view (x ∷ []))) → t.parens at (element_view x).value ≡ enclosed at (elements_of (map element_view (x ∷ [])))
lone_enclosed at x lone = by_choices (choices_of (element_view x).choices) lone
  where
    by_choices : (cs : Choices) → true ≡ is_lone (element cs (element_view x).value no_elements) → t.parens at (element_view x).value ≡ enclosed at (element cs (element_view x).value no_elements)
    by_choices no_choices h = refl
    by_choices (choice c cs) h = absurd (true≢false h)

pub other_enclosed : (at : ℕ) (es : Elements) → false ≡ is_lone es → t.aggregate at es ≡ enclosed at es
other_enclosed at no_elements h = refl
other_enclosed at (element no_choices value no_elements) h = absurd (false≢true h)
other_enclosed at (element no_choices value (element cs next more)) h = refl
other_enclosed at (element (choice c cs) value more) h = refl

-- ---- values

-- more than one, or none
pub no_fill : (xs : List d.Element) → (length xs ≡ 1 → ⊥) → false ≡ is_fill (elements_of (map element_view xs))
no_fill [] long = refl
no_fill (x ∷ []) long = absurd (long (omega arith))
no_fill (x ∷ y ∷ xs) long = by_choices (choices_of (element_view x).choices)
  where
    by_choices : (cs : Choices) → false ≡ is_fill (element cs (element_view x).value (elements_of (map element_view (y ∷ xs))))
    by_choices no_choices = refl
    by_choices (choice (otherwise other) no_choices) = refl
    by_choices (choice (otherwise other) (choice c cs)) = refl
    by_choices (choice (chosen e) cs) = refl
    by_choices (choice (chosen_range left direction right) cs) = refl

-- by more choices than one, or none
pub no_choice_fills : (x : d.Element) → (length x.choices.items ≡ 1 → ⊥) → false ≡ is_fill (elements_of (map element_view (x ∷ [])))
no_choice_fills x long = by_choices x.choices.items long
  where
    by_more : (c : Choice) (e : Choice) (cs : Choices) → false ≡ is_fill (element (choice c (choice e cs)) (element_view x).value no_elements)
    by_more (otherwise other) e cs = refl
    by_more (chosen value) e cs = refl
    by_more (chosen_range left direction right) e cs = refl

    by_choices : (cs : List h.Choice) → (length cs ≡ 1 → ⊥) → false ≡ is_fill (element (choices_of (map choice_view cs)) (element_view x).value no_elements)
    by_choices [] h = refl
    by_choices (c ∷ []) h = absurd (h (omega arith))
    by_choices (c ∷ e ∷ cs) h = by_more (choice_view c) (choice_view e) (choices_of (map choice_view cs))

-- the element that fills
pub fill_value : (at : ℕ) (x : d.Element) → true ≡ is_fill (elements_of (map element_view (x ∷ []))) → others at (element_view x).value ≡ value_of (t.aggregate at (elements_of (map element_view (x ∷ []))))
fill_value at x fills = by_choices (choices_of (element_view x).choices) fills
  where
    by_choices : (cs : Choices) → true ≡ is_fill (element cs (element_view x).value no_elements) → others at (element_view x).value ≡ value_of (t.aggregate at (element cs (element_view x).value no_elements))
    by_choices no_choices h = absurd (true≢false h)
    by_choices (choice (otherwise other) no_choices) h = refl
    by_choices (choice (otherwise other) (choice c cs)) h = absurd (true≢false h)
    by_choices (choice (chosen e) cs) h = absurd (true≢false h)
    by_choices (choice (chosen_range left direction right) cs) h = absurd (true≢false h)

pub other_value : (at : ℕ) (es : Elements) → false ≡ is_fill es → single (t.aggregate at es) ≡ value_of (t.aggregate at es)
other_value at (element (choice (otherwise other) no_choices) value no_elements) h = absurd (false≢true h)
other_value at (element (choice (otherwise other) no_choices) value (element cs next more)) h = refl
other_value at (element (choice (otherwise other) (choice c cs)) value more) h = refl
other_value at (element (choice (chosen e) cs) value more) h = refl
other_value at (element (choice (chosen_range left direction right) cs) value more) h = refl
other_value at (element no_choices value more) h = refl
other_value at no_elements h = refl

-- ---- by its kind

pub no_name : (x : Expr) → ((n : Name) → x ≡ e.Name n → ⊥) → None ≡ name_of (view x)
no_name (e.Name' identifier suffix attribute) other = absurd (other (record { identifier = identifier; suffix = suffix; attribute = attribute }) refl)
no_name (e.Chain' p chain) other = chain_is_no_name chain
no_name _ other = refl

pub no_aggregate : (x : Expr) → ((at : ℕ) (elements : Vec d.Element Global) → x ≡ e.Aggregate at elements → ⊥) → single (view x) ≡ value_of (view x)
no_aggregate (e.Aggregate' at shape row) other =
    let v = shown-the_row-Element-1 shape row in
    absurd (other at v (cc (roll-out-Expr (e.Aggregate' at shape row), ap roll-Expr (outs-Aggregate' at shape row), rolls-Aggregate at v)))
no_aggregate (e.Chain' p chain) other = chain_is_single chain
no_aggregate _ other = refl

-- the last of elements that pass a test of lone ones is the only one
last_alone : (test : Elements → Bool) → ((xs : List d.Element) → (length xs ≡ 1 → ⊥) → false ≡ test (elements_of (map element_view xs))) →
    (xs : List d.Element) (x : d.Element) (ys : List d.Element) → true ≡ test (elements_of (map element_view xs)) → xs ≡ ys ++ x ∷ [] → xs ≡ x ∷ []
last_alone test long_fails xs x [] passes is = is
last_alone test long_fails xs x (y ∷ ys) passes is =
    let long = ap (λ zs. length zs) is in
    absurd (true≢false (passes ∙ sym (long_fails xs (λ one. omega (arith, one, long, length-append ys (x ∷ []))))))

pub fill_alone : (xs : List d.Element) (x : d.Element) (ys : List d.Element) → true ≡ is_fill (elements_of (map element_view xs)) → xs ≡ ys ++ x ∷ [] → xs ≡ x ∷ []
fill_alone = last_alone is_fill no_fill

pub lone_alone : (xs : List d.Element) (x : d.Element) (ys : List d.Element) → true ≡ is_lone (elements_of (map element_view xs)) → xs ≡ ys ++ x ∷ [] → xs ≡ x ∷ []
lone_alone = last_alone is_lone no_lone

pub filled : (self : Expr) (at : ℕ) (v : Vec d.Element Global) (x : d.Element) → self ≡ e.Aggregate at v → v.items ≡ x ∷ [] → true ≡ is_fill (elements_of (map element_view v.items)) → others at (element_view x).value ≡ value_of (view self)
filled self at v x is one fills =
    fill_value at x (fills ∙ ap (λ xs. is_fill (elements_of (map element_view xs))) one)
    ∙ ap (λ xs. value_of (t.aggregate at (elements_of (map element_view xs)))) (sym one)
    ∙ ap value_of (sym (view_aggregate at v)) ∙ ap (λ y. value_of (view y)) (sym is)

pub unfilled : (self : Expr) (at : ℕ) (v : Vec d.Element Global) → self ≡ e.Aggregate at v → false ≡ is_fill (elements_of (map element_view v.items)) → single (view self) ≡ value_of (view self)
unfilled self at v is other = subst (λ y. single y ≡ value_of y) (sym (ap view is ∙ view_aggregate at v)) (other_value at (elements_of (map element_view v.items)) other)
