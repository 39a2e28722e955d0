-- Whether two expressions are the same, as the code comes to their parts.
use Rattle.std.proofs.Common.{◌≡◌, ◌≢◌, ℕ, ◌+◌, ◌<◌, ◌⊎◌, inl, inr, Bool, true, false, ◌&&◌, ◌==◌, List, [], ◌∷◌, ◌++◌, length, Box, Vec, Global, refl, sym, ap, ◌∙◌, arith}
use Rattle.std.specs.Prelude.{bytes_eq, slice_index, vec_len}
use Rattle.std.proofs.lemmas.Bool.{eqb-true}
use Rattle.std.proofs.lemmas.List.{same_lists, get_or_default}
use Rattle.std.proofs.lemmas.Slice.Eq.{bytes_eq-Decides}
use Rattle.rtl_model.specs.bodies.Body.{Operator, Expr, binary}
use Rattle.vhdl_values.specs.declared.vector.Vec9.{Vec9}
use Rattle.vhdl_values.specs.declared.kinds.Counted.{Counted}
use Rattle.vhdl_values.specs.declared.kinds.Shift.{Shift}
use Rattle.vhdl_numbers.specs.declared.kinds.Conversion.{Conversion}
use Rattle.rtl_net.specs.declared.indices.Indices.{Indices}
use Rattle.rtl_net.specs.declared.body.Spacing.{Spacing}
use Rattle.rtl_net.specs.declared.body.RowsOf.{RowsOf}
use Rattle.rtl_net.specs.declared.body.Expr as code
use Rattle.rtl_net.specs.declared.body.Expr.TheVariants as e
use Rattle.rtl_net.specs.declared.body.Link.{Link}
use Rattle.rtl_net.specs.Bodies.{operator_view, expr_view, links_of}
use Rattle.rtl_net.proofs.Rows.{view_chain}
use Rattle.rtl_eval.proofs.Totals.{total}
use Rattle.rtl_eval.proofs.Weights.{weight, links_weight, operand_weight}
use Rattle.vhdl_expand_rules.specs.SameExpr.{same_operator, same_expr}

-- with one behind others there is one more, and what it holds
total_push : {X : Type 0} (f : X → ℕ) (xs : List X) (x : X) → total f (xs ++ x ∷ []) ≡ total f xs + (1 + f x)
total_push {X} f [] x = omega arith
total_push {X} f (y ∷ ys) x = let h = total_push f ys x in omega (arith, h)

-- ---- lists of places

module _ (xs ys : List ℕ) where
  differ : (xs ≡ ys → ⊥) → bytes_eq xs ys ≡ false
  differ n = by (bytes_eq xs ys) refl
    where
      by : (t : Bool) → bytes_eq xs ys ≡ t → t ≡ false
      by true e = absurd (n ((bytes_eq-Decides xs ys).0 e))
      by false e = refl

  pub differ_long : length xs ≢ length ys → bytes_eq xs ys ≡ false
  differ_long n = differ (λ h. n (ap length h))

  pub differ_at : (k : ℕ) → slice_index xs k ≢ slice_index ys k → bytes_eq xs ys ≡ false
  differ_at k n = differ (λ h. n (ap (λ (zs : List ℕ). slice_index zs k) h))

  pub alike : length xs ≡ length ys → ((k : ℕ) → k < length xs → slice_index xs k ≡ slice_index ys k) → bytes_eq xs ys ≡ true
  alike h each =
      (bytes_eq-Decides xs ys).1
      (same_lists xs ys h (λ k d l. get_or_default xs k d 0 l ∙ each k l ∙ get_or_default ys k 0 d (omega (arith, l, h))))

-- ---- chains

-- no operator on two operands
abbrev pub IsApart : Expr → Type 0
IsApart a = (o : Operator) (x y : Expr) → same_expr a (binary o x y) ≡ false

never : (a : Expr) → IsApart a → (o : Operator) (x y : Expr) (ls : List Link) → same_expr a (links_of (binary o x y) ls) ≡ false
never a h o x y [] = h o x y
never a h o x y (l ∷ ls) = never a h (operator_view l.operator) (binary o x y) (expr_view l.operand) ls

apart : (a : Expr) → IsApart a → (d : Expr) (ls : List Link) → (length ls == 0) ≡ false → same_expr a (links_of d ls) ≡ false
apart a h d [] n = absurd cc
apart a h d (l ∷ ls) n = never a h (operator_view l.operator) d (expr_view l.operand) ls

-- what is no chain
abbrev pub IsUnlinked : code.Expr → Type 0
IsUnlinked x =
    ((a : Indices) × (x ≡ e.Signal a))
    ⊎ (((a : Indices) × (x ≡ e.Variable a))
    ⊎ (((a : Vec9) × (x ≡ e.Constant a))
    ⊎ (((a : Box code.Expr Global) × (x ≡ e.Inverse a))
    ⊎ (((a : ℕ) × (b : Box code.Expr Global) × (x ≡ e.Filled a b))
    ⊎ (((a : Counted) × (b : ℕ) × (c : Box code.Expr Global) × (x ≡ e.Counted a b c))
    ⊎ (((a : Shift) × (b : Box code.Expr Global) × (c : Box code.Expr Global) × (x ≡ e.Shifted a b c))
    ⊎ (((a : Conversion) × (b : Box code.Expr Global) × (x ≡ e.Converted a b))
    ⊎ (((a : Box code.Expr Global) × (b : Spacing) × (c : RowsOf) × (x ≡ e.Chosen a b c))))))))))

unlinked : (x : code.Expr) → IsUnlinked x → IsApart (expr_view x)
unlinked x (inl w) o y z = ap (λ (v : code.Expr). same_expr (expr_view v) (binary o y z)) w.1
unlinked x (inr (inl w)) o y z = ap (λ (v : code.Expr). same_expr (expr_view v) (binary o y z)) w.1
unlinked x (inr (inr (inl w))) o y z = ap (λ (v : code.Expr). same_expr (expr_view v) (binary o y z)) w.1
unlinked x (inr (inr (inr (inl w)))) o y z = ap (λ (v : code.Expr). same_expr (expr_view v) (binary o y z)) w.1
unlinked x (inr (inr (inr (inr (inl w))))) o y z = ap (λ (v : code.Expr). same_expr (expr_view v) (binary o y z)) w.2
unlinked x (inr (inr (inr (inr (inr (inl w)))))) o y z = ap (λ (v : code.Expr). same_expr (expr_view v) (binary o y z)) w.3
unlinked x (inr (inr (inr (inr (inr (inr (inl w))))))) o y z = ap (λ (v : code.Expr). same_expr (expr_view v) (binary o y z)) w.3
unlinked x (inr (inr (inr (inr (inr (inr (inr (inl w)))))))) o y z = ap (λ (v : code.Expr). same_expr (expr_view v) (binary o y z)) w.2
unlinked x (inr (inr (inr (inr (inr (inr (inr (inr (w))))))))) o y z = ap (λ (v : code.Expr). same_expr (expr_view v) (binary o y z)) w.3

pub unlinked_apart : (x : code.Expr) → IsUnlinked x → (d : Expr) (ls : List Link) → (length ls == 0) ≡ false → false ≡ same_expr (expr_view x) (links_of d ls)
unlinked_apart x h d ls n = sym (apart (expr_view x) (unlinked x h) d ls n)

pub alone : (d : Expr) (ls : List Link) → length ls ≡ 0 → links_of d ls ≡ d
alone d [] n = refl
alone d (l ∷ ls) n = absurd (omega (arith, n))

module _ (a : Expr) (whole : code.Expr) (first : Box code.Expr Global) (rest : Vec Link Global) (is : whole ≡ e.Chain first rest) where
  pub linked : expr_view whole ≡ links_of (expr_view first.value) rest.items
  linked = ap expr_view is ∙ view_chain first rest

  pub chain_alone : (vec_len rest == 0) ≡ true → same_expr a (expr_view first.value) ≡ same_expr a (expr_view whole)
  chain_alone n =
      let none : length rest.items ≡ 0 = sym rest.ok.0 ∙ eqb-true (vec_len rest) 0 n in
      ap (same_expr a) (sym (linked ∙ alone (expr_view first.value) rest.items none))

  pub chain_apart : IsApart a → (vec_len rest == 0) ≡ false → false ≡ same_expr a (expr_view whole)
  chain_apart h n = sym (ap (same_expr a) linked ∙ apart a h (expr_view first.value) rest.items (sym (ap (λ (k : ℕ). k == 0) rest.ok.0) ∙ n))

-- with an operator behind others
pub weight_push : (ls init : List Link) (l : Link) → ls ≡ init ++ l ∷ [] → links_weight ls ≡ links_weight init + (1 + weight l.operand)
weight_push ls init l h = ap links_weight h ∙ total_push operand_weight init l

-- ---- the last operators of two chains

and-false : (t : Bool) → (t && false) ≡ false
and-false true = refl
and-false false = refl

and-true : (t : Bool) → (t && true) ≡ t
and-true true = refl
and-true false = refl

-- of this one and of what the other ends with
module _ (o p : Operator) (a b c d whole : Expr) (is : whole ≡ binary p c d) where
  pub other_operator : same_operator o p ≡ false → false ≡ same_expr (binary o a b) whole
  other_operator h = sym (ap (same_expr (binary o a b)) is ∙ ap (λ t. t && (same_expr a c && same_expr b d)) h)

  pub other_operand : same_operator o p ≡ true → same_expr b d ≡ false → false ≡ same_expr (binary o a b) whole
  other_operand h k =
      sym (ap (same_expr (binary o a b)) is ∙ ap (λ t. t && (same_expr a c && same_expr b d)) h ∙ ap (λ t. same_expr a c && t) k ∙ and-false (same_expr a c))

  pub others_alike : same_operator o p ≡ true → same_expr b d ≡ true → same_expr a c ≡ same_expr (binary o a b) whole
  others_alike h k =
      sym (ap (same_expr (binary o a b)) is ∙ ap (λ t. t && (same_expr a c && same_expr b d)) h ∙ ap (λ t. same_expr a c && t) k ∙ and-true (same_expr a c))
