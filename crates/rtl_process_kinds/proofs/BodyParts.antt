-- Chains of operators of which there are none, and of which there are some.
use Rattle.std.proofs.Common.{◌≡◌, ℕ, zero, suc, ◌==◌, true, false, List, [], ◌∷◌, length, vec_len, None, refl, sym, ap, ◌∙◌, arith, Vec, Global}
use Rattle.std.specs.List.{range_with_len}
use Rattle.std.proofs.lemmas.Bool.{eqb-true}
use Rattle.vhdl_values.specs.declared.kinds.Logic.{Logic}
use Rattle.rtl_model.specs.bodies.Body as bodies
use Rattle.rtl_net.specs.declared.body.Expr.{Expr}
use Rattle.rtl_net.specs.declared.body.Expr.TheVariants as ve
use Rattle.rtl_net.specs.declared.body.Link.{Link}
use Rattle.rtl_net.specs.declared.body.Test.{Test}
use Rattle.rtl_net.specs.declared.body.Test.TheVariants as vt
use Rattle.rtl_net.specs.declared.body.TestLink.{TestLink}
use Rattle.rtl_net.specs.declared.indices.Indices.{Indices}
use Rattle.rtl_net.specs.declared.indices.Indices.TheVariants as vi
use Rattle.rtl_net.specs.Bodies.{operator_view, expr_view, links_of, test_view, test_links_of}
use Rattle.rtl_net.specs.Indices.{numbers}
use Rattle.rtl_net.proofs.Rows.{view_chain, view_combined}
use Rattle.rtl_process_kinds.specs.BodyViews.{only}

-- ---- numbers

not_only : (first len : ℕ) → (len ≡ 1 → ⊥) → None ≡ only (range_with_len first len)
not_only first zero n = refl
not_only first (suc zero) n = absurd (n refl)
not_only first (suc (suc len)) n = refl

pub no_single : (i : Indices) (first len : ℕ) → i ≡ vi.Run first len → (len ≡ 1 → ⊥) → None ≡ only (numbers i)
no_single i first len is n = not_only first len n ∙ sym (ap (λ (x : Indices). only (numbers x)) is)

-- ---- expressions

module _ {A : Type 0} (f : bodies.Expr → A) (x : Expr) (first : _) (rest : Vec Link Global) (is : x ≡ ve.Chain first rest) where
  spelled : f (expr_view x) ≡ f (links_of (expr_view first.value) rest.items)
  spelled = ap (λ (y : Expr). f (expr_view y)) is ∙ ap f (view_chain first rest)

  pub expr_alone : (vec_len rest == 0) ≡ true → f (expr_view first.value) ≡ f (expr_view x)
  expr_alone e = sym (spelled ∙ go (expr_view first.value) rest.items (sym (ap (λ (n : ℕ). n == 0) rest.ok.0) ∙ e))
    where
      go : (left : bodies.Expr) (ls : List Link) → (length ls == 0) ≡ true → f (links_of left ls) ≡ f left
      go left [] e = refl
      go left (l ∷ ls) e = let k = eqb-true (length (l ∷ ls)) 0 e in absurd (omega arith)

  pub expr_chain : (a : A) → ((o : bodies.Operator) (s t : bodies.Expr) → f (bodies.binary o s t) ≡ a) → (vec_len rest == 0) ≡ false → a ≡ f (expr_view x)
  expr_chain a h e = sym (spelled ∙ go (expr_view first.value) rest.items (sym (ap (λ (n : ℕ). n == 0) rest.ok.0) ∙ e))
    where
      more : (left : bodies.Expr) (l : Link) (ls : List Link) → f (links_of left (l ∷ ls)) ≡ a
      more left l [] = h (operator_view l.operator) left (expr_view l.operand)
      more left l (m ∷ ls) = more (bodies.binary (operator_view l.operator) left (expr_view l.operand)) m ls

      go : (left : bodies.Expr) (ls : List Link) → (length ls == 0) ≡ false → f (links_of left ls) ≡ a
      go left [] e = absurd cc
      go left (l ∷ ls) e = more left l ls

-- ---- tests

module _ {A : Type 0} (f : bodies.Test → A) (x : Test) (first : _) (rest : Vec TestLink Global) (is : x ≡ vt.Combined first rest) where
  test_spelled : f (test_view x) ≡ f (test_links_of (test_view first.value) rest.items)
  test_spelled = ap (λ (y : Test). f (test_view y)) is ∙ ap f (view_combined first rest)

  pub test_alone : (vec_len rest == 0) ≡ true → f (test_view first.value) ≡ f (test_view x)
  test_alone e = sym (test_spelled ∙ go (test_view first.value) rest.items (sym (ap (λ (n : ℕ). n == 0) rest.ok.0) ∙ e))
    where
      go : (left : bodies.Test) (ls : List TestLink) → (length ls == 0) ≡ true → f (test_links_of left ls) ≡ f left
      go left [] e = refl
      go left (l ∷ ls) e = let k = eqb-true (length (l ∷ ls)) 0 e in absurd (omega arith)

  pub test_chain : (a : A) → ((o : Logic) (s t : bodies.Test) → f (bodies.combined o s t) ≡ a) → (vec_len rest == 0) ≡ false → a ≡ f (test_view x)
  test_chain a h e = sym (test_spelled ∙ go (test_view first.value) rest.items (sym (ap (λ (n : ℕ). n == 0) rest.ok.0) ∙ e))
    where
      more : (left : bodies.Test) (l : TestLink) (ls : List TestLink) → f (test_links_of left (l ∷ ls)) ≡ a
      more left l [] = h l.operator left (test_view l.operand)
      more left l (m ∷ ls) = more (bodies.combined l.operator left (test_view l.operand)) m ls

      go : (left : bodies.Test) (ls : List TestLink) → (length ls == 0) ≡ false → f (test_links_of left ls) ≡ a
      go left [] e = absurd cc
      go left (l ∷ ls) e = more left l ls
