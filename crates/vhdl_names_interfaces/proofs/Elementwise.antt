-- Aggregates, compared element by element.
use Rattle.std.proofs.Common.{◌≡◌, ℕ, Bool, ◌&&◌, List, [], ◌∷◌, Vec, Global, refl, sym, ap, ◌∙◌}
use Rattle.vhdl_tree.specs.declared.expression.Choice.{Choice}
use Rattle.vhdl_tree.specs.declared.expression.Element.{Element, out-Element}
use Rattle.vhdl_tree.specs.declared.expression.Expr.{Expr as CodeExpr}
use Rattle.vhdl_tree.specs.declared.expression.Expr.TheVariants as x
use Rattle.vhdl_tree.specs.declared.expression.Identifier.{Identifier}
use Rattle.vhdl_tree.specs.Tree as t
use Rattle.vhdl_tree.specs.Tree.{choices_of, elements_of}
use Rattle.vhdl_tree.specs.View.{ident_view, view, choice_view, element_view, elements_view}
use Rattle.vhdl_tree.proofs.RowsElements.{view_aggregate, view_qualified}
use Rattle.vhdl_names_rules.specs.SameText.{same_name, same_expr, same_each, same_elements, same_choices, same_choice}
use Rattle.vhdl_names_interfaces.specs.Parts.{same_element}
use Rattle.vhdl_names_interfaces.proofs.Pairwise.{each_alike}

choices_same : (xs ys : List t.Choice) → same_choices (choices_of xs) (choices_of ys) ≡ same_each same_choice xs ys
choices_same [] [] = refl
choices_same [] (y ∷ ys) = refl
choices_same (x ∷ xs) [] = refl
choices_same (x ∷ xs) (y ∷ ys) = ap (λ b. same_choice x y && b) (choices_same xs ys)

elements_same : (xs ys : List t.Element) → same_elements (elements_of xs) (elements_of ys) ≡ same_each same_element xs ys
elements_same [] [] = refl
elements_same [] (y ∷ ys) = refl
elements_same (x ∷ xs) [] = refl
elements_same (x ∷ xs) (y ∷ ys) =
    ap (λ b. b && same_expr x.value y.value && same_elements (elements_of xs) (elements_of ys)) (choices_same x.choices y.choices)
    ∙ ap (λ b. same_each same_choice x.choices y.choices && same_expr x.value y.value && b) (elements_same xs ys)

abbrev pub alike_elements : List Element → List Element → Bool
alike_elements xs ys = same_each (λ x y. same_element (element_view x) (element_view y)) xs ys

rows_same : (v w : Vec Element Global) → same_elements (elements_of (elements_view v)) (elements_of (elements_view w)) ≡ alike_elements v.items w.items
rows_same v w = elements_same (elements_view v) (elements_view w) ∙ each_alike element_view same_element v.items w.items

module _ (a b : CodeExpr) (v w : Vec Element Global) (xs ys : List Element) (first : xs ≡ v.items) (second : ys ≡ w.items) where
  seen : alike_elements xs ys ≡ alike_elements v.items w.items
  seen = ap (λ l. alike_elements l ys) first ∙ ap (alike_elements v.items) second

  pub aggregates_same : (at at' : ℕ) → a ≡ x.Aggregate at v → b ≡ x.Aggregate at' w → alike_elements xs ys ≡ same_expr (view a) (view b)
  aggregates_same at at' is is' =
      seen
      ∙ sym (ap (λ z. same_expr (view z) (view b)) is ∙ ap (λ z. same_expr (view (x.Aggregate at v)) (view z)) is'
      ∙ ap (λ z. same_expr z (view (x.Aggregate at' w))) (view_aggregate at v) ∙ ap (same_expr (t.aggregate at (elements_of (elements_view v)))) (view_aggregate at' w)
      ∙ rows_same v w)

  pub qualified_same : (m m' : Identifier) (at at' : ℕ) → a ≡ x.Qualified m at v → b ≡ x.Qualified m' at' w →
      (same_name (ident_view m) (ident_view m') && alike_elements xs ys) ≡ same_expr (view a) (view b)
  qualified_same m m' at at' is is' =
      ap (λ c. same_name (ident_view m) (ident_view m') && c) seen
      ∙ sym (ap (λ z. same_expr (view z) (view b)) is ∙ ap (λ z. same_expr (view (x.Qualified m at v)) (view z)) is'
      ∙ ap (λ z. same_expr z (view (x.Qualified m' at' w))) (view_qualified m at v) ∙ ap (same_expr (t.qualified (ident_view m) at (elements_of (elements_view v)))) (view_qualified m' at' w)
      ∙ ap (λ c. same_name (ident_view m) (ident_view m') && c) (rows_same v w))

pub element_same : (a b : Element) (xs ys : List Choice) → xs ≡ (out-Element a).choices.items → ys ≡ (out-Element b).choices.items →
    (same_each (λ x y. same_choice (choice_view x) (choice_view y)) xs ys && same_expr (view (out-Element a).value) (view (out-Element b).value)) ≡ same_element (element_view a) (element_view b)
element_same a b xs ys first second =
    ap (λ l. same_each (λ x y. same_choice (choice_view x) (choice_view y)) l ys && same_expr (view (out-Element a).value) (view (out-Element b).value)) first
    ∙ ap (λ l. same_each (λ x y. same_choice (choice_view x) (choice_view y)) (out-Element a).choices.items l && same_expr (view (out-Element a).value) (view (out-Element b).value)) second
    ∙ ap (λ c. c && same_expr (view (out-Element a).value) (view (out-Element b).value)) (sym (each_alike choice_view same_choice (out-Element a).choices.items (out-Element b).choices.items))
