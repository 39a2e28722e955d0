-- Conditions: levels, and chains of logical operators.
use Rattle.std.proofs.Common.{◌≡◌, ℕ, suc, ◌≤◌, Bool, List, [], ◌∷◌, ◌++◌, replicate, Box, Vec, Global, Ok, refl, sym, ap, ◌∙◌, arith}
use Rattle.std.specs.List.{range_with_len}
use Rattle.vhdl_values.specs.declared.scalar.Nine.{Nine}
use Rattle.rtl_model.specs.bodies.Body as bodies
use Rattle.rtl_net.specs.declared.body.TestLink as m
use Rattle.rtl_net.specs.Bodies as net
use Rattle.rtl_net.specs.Bodies.{test_links_of}
use Rattle.vhdl_names_trees.specs.declared.test.Test.{Test}
use Rattle.vhdl_names_trees.specs.declared.test.Test.TheVariants as t
use Rattle.vhdl_names_trees.specs.declared.test.TestLink.{TestLink}
use Rattle.vhdl_names_trees.specs.declared.test.TestStart.{TestStart}
use Rattle.vhdl_names_trees.specs.views.Tests.{test_view, test_chained}
use Rattle.vhdl_names_rules.specs.units.Expressions as u
use Rattle.vhdl_names_trees.proofs.rows.Tests.{view_chain}
use Rattle.vhdl_expand_rules.specs.Elab.{Elab, ◌>>=◌}
use Rattle.vhdl_expand_rules.specs.Site.{Site, signal_elements, the_element}
use Rattle.vhdl_expand_rules.specs.Expressions.{level_test, test}
use Rattle.vhdl_expand_rules.proofs.Steps.{given, ok}
use Rattle.vhdl_expand_bodies.specs.steps.Chains.{chained}
use Rattle.vhdl_expand_bodies.specs.steps.Tests as steps
use Rattle.vhdl_expand_bodies.proofs.Chained.{chain_of}

-- ---- levels

level-more : (plain : Bool) (f len : ℕ) (x : Nine) → 2 ≤ len
    → level_test plain (range_with_len f len) x ≡ bodies.equal (bodies.elements (bodies.signal (range_with_len f len))) (bodies.elements (bodies.constant (x ∷ [])))
level-more plain f (suc (suc len)) x h = refl
level-more plain f _ x h = absurd (omega arith)

-- ---- chains

links-push : (left : bodies.Test) (xs : List m.TestLink) (y : m.TestLink) → test_links_of left (xs ++ y ∷ []) ≡ bodies.combined y.operator (test_links_of left xs) (net.test_view y.operand)
links-push left [] y = refl
links-push left (x ∷ xs) y = links-push (bodies.combined x.operator left (net.test_view x.operand)) xs y

abbrev one_more : bodies.Test → Elab bodies.Test
one_more t = Ok t

pub level_given : (here : Site) (plain : Bool) (p : u.SignalPart) (x : Nine) (f len : ℕ) (es : List ℕ) (vs : List Nine)
    → signal_elements here p.at p.signal p.part ≡ Ok (range_with_len f len) → 1 ≤ len → (len ≡ 1 → ⊥) → given (range_with_len f len) ≡ Ok es → vs ≡ replicate 1 x
    → steps.level here plain p x ≡ Ok (bodies.equal (bodies.elements (bodies.signal es)) (bodies.elements (bodies.constant vs)))
level_given here plain p x f len es vs there some several same value =
    ap (λ r. r >>= λ es. one_more (level_test plain es x)) there
    ∙ ap one_more (level-more plain f len x (omega arith))
    ∙ ap (λ ms. one_more (bodies.equal (bodies.elements (bodies.signal ms)) (bodies.elements (bodies.constant (x ∷ []))))) (ok (range_with_len f len) es same)
    ∙ ap (λ ws. one_more (bodies.equal (bodies.elements (bodies.signal es)) (bodies.elements (bodies.constant ws)))) (sym value)

-- of one element
pub one_level : (here : Site) (plain : Bool) (p : u.SignalPart) (x : Nine) (f len e : ℕ) → signal_elements here p.at p.signal p.part ≡ Ok (range_with_len f len) → len ≡ 1
    → the_element p.at (given (range_with_len f len)) ≡ Ok e → steps.level here plain p x ≡ Ok (bodies.level plain e x)
one_level here plain p x f len e there one found =
    let first : f ≡ e = ok f e (ap (λ n. the_element p.at (given (range_with_len f n))) (sym one) ∙ found) in
    ap (λ r. r >>= λ es. one_more (level_test plain es x)) there ∙ ap (λ n. one_more (level_test plain (range_with_len f n) x)) one ∙ ap (λ m. one_more (bodies.level plain m x)) first

module _ (here : Site) where
  -- an operator with its right operand, behind a chain
  pub link_given : (first : bodies.Test) (rest more : List m.TestLink) (k : TestLink) (x : m.TestLink)
      → test here (test_view k.operand) ≡ Ok (net.test_view x.operand) → x.operator ≡ k.operator → more ≡ rest ++ x ∷ []
      → steps.linked here (test_links_of first rest) k ≡ Ok (test_links_of first more)
  link_given first rest more k x h same pushed =
      ap (λ r. r >>= λ d. one_more (bodies.combined k.operator (test_links_of first rest) d)) h
      ∙ ap (λ op. one_more (bodies.combined op (test_links_of first rest) (net.test_view x.operand))) (sym same)
      ∙ ap one_more (sym (ap (test_links_of first) pushed ∙ links-push first rest x))

  linked-step : (c : u.Test) (k : TestLink) → test here (u.Test.both k.operator c (test_view k.operand)) ≡ (test here c >>= λ d. steps.linked here d k)
  unfolding test
  linked-step c k = refl

  pub chain_is : (e : Test) (start : Box TestStart Global) (links : Vec TestLink Global) (st : TestStart) (ls : List TestLink) → e ≡ t.Chain start links → st ≡ start.value → ls ≡ links.items
      → test here (test_view e) ≡ (steps.started here st >>= λ d. chained (steps.linked here) d ls)
  chain_is e start links st ls h j k =
      chain_of (steps.linked here) (test here) (λ c k. u.Test.both k.operator c (test_view k.operand)) test_chained (λ x. refl) (λ x k ks. refl) linked-step (λ (s : TestStart). test_view s.first) (λ (s : TestStart). s.link)
      _ start.value st links.items ls (ap (λ (a : Test). test here (test_view a)) h ∙ ap (test here) (view_chain start links)) j k
