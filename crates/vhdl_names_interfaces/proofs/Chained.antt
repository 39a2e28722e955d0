-- Chains of operators, compared operand by operand: a chain is as long as one that is the same text.
use Rattle.std.proofs.Common.{◌≡◌, ℕ, suc, ◌+◌, Bool, true, false, ◌&&◌, List, [], ◌∷◌, map, length, Vec, Box, Global, refl, sym, ap, ◌∙◌, arith}
use Rattle.std.proofs.lemmas.Bool.{and_left, and_right}
use Rattle.vhdl_tree.specs.declared.expression.Chain.{Chain, out-Chain}
use Rattle.vhdl_tree.specs.declared.expression.Link.{Link}
use Rattle.vhdl_tree.specs.declared.expression.Expr.{Expr as CodeExpr}
use Rattle.vhdl_tree.specs.declared.expression.Expr.TheVariants as x
use Rattle.vhdl_tree.specs.declared.expression.Range.{Range}
use Rattle.vhdl_tree.specs.declared.expression.Suffix.{Suffix}
use Rattle.vhdl_tree.specs.declared.expression.Suffix.TheVariants as s
use Rattle.vhdl_tree.specs.Tree as t
use Rattle.vhdl_tree.specs.Lexeme.{same_kind}
use Rattle.vhdl_tree.specs.grammar.Expressions.{kind_of}
use Rattle.vhdl_tree.specs.Tree.{Expr, joined, all_joined, begun, exprs_of}
use Rattle.vhdl_tree.specs.View.{view, chain_view, pair_view, suffix_view}
use Rattle.vhdl_tree.proofs.Rows.{chain_is, view_arguments}
use Rattle.vhdl_names_rules.specs.SameText.{same_expr, same_exprs, same_each, same_suffix}
use Rattle.vhdl_names_interfaces.specs.Parts as parts
use Rattle.vhdl_names_interfaces.specs.Parts.{same_link}

-- how many operators a chain has
abbrev pub operators : Expr → ℕ
operators (t.binary true o at l r) = 1
operators (t.binary false o at l r) = suc (operators l)
operators _ = 0

all_operators : (x : Expr) (ls : List Link) → operators (all_joined x (map pair_view ls)) ≡ length ls + operators x
all_operators x [] = omega arith
all_operators x (l ∷ ls) =
    let h = all_operators (joined x (pair_view l)) ls in
    omega (arith, h)

and_true : (b : Bool) → (b && true) ≡ b
and_true true = refl
and_true false = refl

-- what is the same text has as many
apart : (x y : Expr) → (operators x ≡ operators y → ⊥) → same_expr x y ≡ false
apart (t.binary true o at l r) (t.binary true o' at' l' r') n = absurd (n refl)
apart (t.binary false o at l r) (t.binary false o' at' l' r') n =
    let k = same_kind (kind_of o) (kind_of o') in
    and_left (k && same_expr l l') (same_expr r r') (and_right k (same_expr l l') (apart l l' (λ e. n (ap suc e))))
apart (t.binary b o at l r) (t.binary b' o' at' l' r') n = refl
apart (t.binary b o at l r) y n = refl
apart x (t.binary b o at l r) n = refl
apart x y n = absurd (n refl)

regrouped : (k s t r : Bool) → ((k && s && t) && r) ≡ (s && ((k && t) && r))
regrouped true true t r = refl
regrouped true false t r = refl
regrouped false true t r = refl
regrouped false false t r = refl

by_links : (x y : Expr) (ls ms : List Link) → operators x ≡ operators y →
    same_expr (all_joined x (map pair_view ls)) (all_joined y (map pair_view ms)) ≡ (same_expr x y && same_each same_link ls ms)
by_links x y [] [] h = sym (and_true (same_expr x y))
by_links x y [] (m ∷ ms) h =
    let n = all_operators y (m ∷ ms) in
    apart x (all_joined y (map pair_view (m ∷ ms))) (λ i. absurd (omega (arith, i, n, h))) ∙ sym (and_right (same_expr x y) false refl)
by_links x y (l ∷ ls) [] h =
    let n = all_operators x (l ∷ ls) in
    apart (all_joined x (map pair_view (l ∷ ls))) y (λ i. absurd (omega (arith, i, n, h))) ∙ sym (and_right (same_expr x y) false refl)
by_links x y (l ∷ ls) (m ∷ ms) h =
    by_links (joined x (pair_view l)) (joined y (pair_view m)) ls ms (ap suc h)
    ∙ regrouped (same_kind (kind_of l.operator) (kind_of m.operator)) (same_expr x y) (same_expr (view l.operand) (view m.operand)) (same_each same_link ls ms)

same_chain : (c d : Chain) → same_expr (chain_view c) (chain_view d) ≡ parts.same_chain c d
same_chain c d =
    let k = out-Chain c in
    let l = out-Chain d in
    ap (λ z. same_expr z (chain_view d)) (chain_is c) ∙ ap (same_expr (all_joined (begun (view k.first) (pair_view k.second)) (map pair_view k.rest.items))) (chain_is d)
    ∙ by_links (begun (view k.first) (pair_view k.second)) (begun (view l.first) (pair_view l.second)) k.rest.items l.rest.items refl
    ∙ regrouped (same_kind (kind_of k.second.operator) (kind_of l.second.operator)) (same_expr (view k.first) (view l.first))
    (same_expr (view k.second.operand) (view l.second.operand)) (same_each same_link k.rest.items l.rest.items)

pub chains_same : (a b : CodeExpr) (c d : Box Chain Global) (k l : Chain) → a ≡ x.Chain c → b ≡ x.Chain d → k ≡ c.value → l ≡ d.value → parts.same_chain k l ≡ same_expr (view a) (view b)
chains_same a b c d k l e h i j =
    ap (λ z. parts.same_chain z l) i ∙ ap (parts.same_chain c.value) j ∙ sym (ap (λ z. same_expr (view z) (view b)) e ∙ ap (λ z. same_expr (chain_view c.value) (view z)) h ∙ same_chain c.value d.value)

-- what has no operators is no chain
module _ (c : Chain) (x : Expr) (none : operators x ≡ 0) where
  differ : (operators x ≡ operators (chain_view c)) → ⊥
  differ e =
      let n = ap operators (chain_is c) ∙ all_operators (begun (view (out-Chain c).first) (pair_view (out-Chain c).second)) (out-Chain c).rest.items in
      absurd (omega (arith, e, n, none))

  pub before_chain : false ≡ same_expr x (chain_view c)
  before_chain = sym (apart x (chain_view c) differ)

  pub behind_chain : false ≡ same_expr (chain_view c) x
  behind_chain = sym (apart (chain_view c) x (λ e. differ (sym e)))

-- arguments likewise
exprs_same : (xs ys : List CodeExpr) → same_exprs (exprs_of (map view xs)) (exprs_of (map view ys)) ≡ same_each (λ x y. same_expr (view x) (view y)) xs ys
exprs_same [] [] = refl
exprs_same [] (y ∷ ys) = refl
exprs_same (x ∷ xs) [] = refl
exprs_same (x ∷ xs) (y ∷ ys) = ap (λ b. same_expr (view x) (view y) && b) (exprs_same xs ys)

same_arguments : (v w : Vec CodeExpr Global) → same_suffix (suffix_view (s.Arguments v)) (suffix_view (s.Arguments w)) ≡ same_each (λ x y. same_expr (view x) (view y)) v.items w.items
same_arguments v w =
    ap (λ z. same_suffix z (suffix_view (s.Arguments w))) (view_arguments v) ∙ ap (same_suffix (t.arguments (exprs_of (map view v.items)))) (view_arguments w)
    ∙ exprs_same v.items w.items

module _ (a b : Suffix) (v : Vec CodeExpr Global) (is : a ≡ s.Arguments v) where
  pub arguments_plain : b ≡ s.Plain → false ≡ same_suffix (suffix_view a) (suffix_view b)
  arguments_plain h = sym (ap (λ z. same_suffix (suffix_view z) (suffix_view b)) is ∙ ap (λ z. same_suffix (suffix_view (s.Arguments v)) (suffix_view z)) h)

  pub arguments_range : (r : Box Range Global) → b ≡ s.Range r → false ≡ same_suffix (suffix_view a) (suffix_view b)
  arguments_range r h = sym (ap (λ z. same_suffix (suffix_view z) (suffix_view b)) is ∙ ap (λ z. same_suffix (suffix_view (s.Arguments v)) (suffix_view z)) h)

  pub arguments_same : (w : Vec CodeExpr Global) (xs ys : List CodeExpr) → b ≡ s.Arguments w → xs ≡ v.items → ys ≡ w.items
      → same_each (λ x y. same_expr (view x) (view y)) xs ys ≡ same_suffix (suffix_view a) (suffix_view b)
  arguments_same w xs ys h i j =
      ap (λ l. same_each (λ x y. same_expr (view x) (view y)) l ys) i ∙ ap (same_each (λ x y. same_expr (view x) (view y)) v.items) j
      ∙ sym (ap (λ z. same_suffix (suffix_view z) (suffix_view b)) is ∙ ap (λ z. same_suffix (suffix_view (s.Arguments v)) (suffix_view z)) h ∙ same_arguments v w)
