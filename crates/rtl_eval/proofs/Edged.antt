-- Edges, by codes.
use Rattle.std.proofs.Common.{◌≡◌, ℕ, ◌+◌, ◌*◌, ◌/◌, ◌%◌, ◌<◌, Bool, true, refl, sym, ap, ◌∙◌, subst, arith}
use Rattle.std.specs.Prelude.{◌==◌, ◌&&◌, not, bit_and}
use Rattle.std.proofs.lemmas.Bool.{agree_below, agree_below_at}
use Rattle.vhdl_values.specs.declared.kinds.Edge.{Edge}
use Rattle.vhdl_values.specs.declared.kinds.Edge.TheVariants.{Rising, Falling, To1, To0}
use Rattle.vhdl_values.specs.declared.scalar.Nine.{Nine}
use Rattle.vhdl_values.specs.declared.scalar.Nine.TheVariants.{Zero, One}
use Rattle.vhdl_values.specs.Scalar.{code_of, is_same, value_of_code, x01_of}
use Rattle.vhdl_values.specs.Edges.{has_edge}
use Rattle.vhdl_values.proofs.Codes.{value_of_code-code_of, code_of_below}

-- tests of two values that agree at each pair of codes
at_two : (F G : Nine → Nine → Bool) (a b : Nine)
    → agree_below (λ k. F (value_of_code (k / 9)) (value_of_code (k % 9))) (λ k. G (value_of_code (k / 9)) (value_of_code (k % 9))) 81 ≡ true → F a b ≡ G a b
at_two F G a b all =
    let k = 9 * code_of a + code_of b in
    let left : k / 9 ≡ code_of a = omega (arith, code_of_below b) in
    let right : k % 9 ≡ code_of b = omega (arith, code_of_below b) in
    let is : value_of_code (k / 9) ≡ a = ap value_of_code left ∙ value_of_code-code_of a in
    let are : value_of_code (k % 9) ≡ b = ap value_of_code right ∙ value_of_code-code_of b in
    let here = agree_below_at (λ j. F (value_of_code (j / 9)) (value_of_code (j % 9))) (λ j. G (value_of_code (j / 9)) (value_of_code (j % 9))) 81 k all (omega (arith, code_of_below a, code_of_below b)) in
    subst (λ (v : Nine). F v b ≡ G v b) is (subst (λ (v : Nine). F (value_of_code (k / 9)) v ≡ G (value_of_code (k / 9)) v) are here)

low : (k : ℕ) → k < 256 → (bit_and k 251 == 2) ≡ is_same (x01_of (value_of_code k)) Zero
low k l = agree_below_at (λ j. bit_and j 251 == 2) (λ j. is_same (x01_of (value_of_code j)) Zero) 256 k refl l

high : (k : ℕ) → k < 256 → (bit_and k 251 == 3) ≡ is_same (x01_of (value_of_code k)) One
high k l = agree_below_at (λ j. bit_and j 251 == 3) (λ j. is_same (x01_of (value_of_code j)) One) 256 k refl l

zero_is : (k : ℕ) → k < 256 → (k == 2) ≡ is_same (value_of_code k) Zero
zero_is k l = agree_below_at (λ j. j == 2) (λ j. is_same (value_of_code j) Zero) 256 k refl l

one_is : (k : ℕ) → k < 256 → (k == 3) ≡ is_same (value_of_code k) One
one_is k l = agree_below_at (λ j. j == 3) (λ j. is_same (value_of_code j) One) 256 k refl l

module _ (b n : ℕ) (l : b < 256) (m : n < 256) (edge : Edge) where
  of_kind : {kind : Edge} → edge ≡ kind → (F : Nine → Nine → Bool) → agree_below (λ k. F (value_of_code (k / 9)) (value_of_code (k % 9))) (λ k. has_edge kind (value_of_code (k / 9)) (value_of_code (k % 9))) 81 ≡ true
      → F (value_of_code b) (value_of_code n) ≡ has_edge edge (value_of_code b) (value_of_code n)
  of_kind {kind} is F all = at_two F (has_edge kind) (value_of_code b) (value_of_code n) all ∙ ap (λ (e : Edge). has_edge e (value_of_code b) (value_of_code n)) (sym is)

  pub rising : edge ≡ Rising → ((bit_and b 251 == 2) && (bit_and n 251 == 3)) ≡ has_edge edge (value_of_code b) (value_of_code n)
  rising is = (λ i. low b l i && high n m i) ∙ of_kind is (λ u v. is_same (x01_of u) Zero && is_same (x01_of v) One) refl

  pub falling : edge ≡ Falling → ((bit_and b 251 == 3) && (bit_and n 251 == 2)) ≡ has_edge edge (value_of_code b) (value_of_code n)
  falling is = (λ i. high b l i && low n m i) ∙ of_kind is (λ u v. is_same (x01_of u) One && is_same (x01_of v) Zero) refl

  pub to_1 : edge ≡ To1 → (not (b == 3) && (n == 3)) ≡ has_edge edge (value_of_code b) (value_of_code n)
  to_1 is = (λ i. not (one_is b l i) && one_is n m i) ∙ of_kind is (λ u v. not (is_same u One) && is_same v One) refl

  pub to_0 : edge ≡ To0 → (not (b == 2) && (n == 2)) ≡ has_edge edge (value_of_code b) (value_of_code n)
  to_0 is = (λ i. not (zero_is b l i) && zero_is n m i) ∙ of_kind is (λ u v. not (is_same u Zero) && is_same v Zero) refl
