-- Which way a static test goes, of a chain of tests.
use Rattle.std.proofs.Common.{◌≡◌, ◌==◌, true, false, List, [], ◌∷◌, length, None, Vec, vec_len, Global, ℕ, refl, sym, ap, ◌∙◌, arith}
use Rattle.std.proofs.lemmas.Bool.{eqb-true}
use Rattle.vhdl_values.specs.declared.kinds.Logic.{Logic}
use Rattle.rtl_model.specs.bodies.Body as m
use Rattle.rtl_net.specs.declared.body.Test.{Test}
use Rattle.rtl_net.specs.declared.body.Test.TheVariants as vt
use Rattle.rtl_net.specs.declared.body.TestLink.{TestLink}
use Rattle.rtl_net.specs.Bodies.{test_view, test_links_of}
use Rattle.rtl_net.proofs.Rows.{view_combined}
use Rattle.rtl_looks.specs.Walks.{decided_of}

many : (op : Logic) (s t : m.Test) (ls : List TestLink) → decided_of (test_links_of (m.combined op s t) ls) ≡ None
many op s t [] = refl
many op s t (l ∷ ls) = many l.operator (m.combined op s t) (test_view l.operand) ls

no_link : (left : m.Test) (ls : List TestLink) → (length ls == 0) ≡ true → decided_of (test_links_of left ls) ≡ decided_of left
no_link left [] e = refl
no_link left (l ∷ ls) e = let bad : length (l ∷ ls) ≡ 0 = eqb-true _ 0 e in absurd (omega arith)

some_link : (left : m.Test) (ls : List TestLink) → (length ls == 0) ≡ false → decided_of (test_links_of left ls) ≡ None
some_link left [] e = let bad : true ≡ false = e in absurd cc
some_link left (l ∷ ls) e = many l.operator left (test_view l.operand) ls

module _ (x : Test) (first : _) (rest : Vec TestLink Global) (is : x ≡ vt.Combined first rest) where
  seen : test_view x ≡ test_links_of (test_view first.value) rest.items
  seen = ap test_view is ∙ view_combined first rest

  pub decided_alone : (vec_len rest == 0) ≡ true → decided_of (test_view first.value) ≡ decided_of (test_view x)
  decided_alone e = sym (ap decided_of seen ∙ no_link (test_view first.value) rest.items (sym (ap (λ (n : ℕ). n == 0) rest.ok.0) ∙ e))

  pub decided_chain : (vec_len rest == 0) ≡ false → None ≡ decided_of (test_view x)
  decided_chain e = sym (ap decided_of seen ∙ some_link (test_view first.value) rest.items (sym (ap (λ (n : ℕ). n == 0) rest.ok.0) ∙ e))
