-- Numbers that are sums of terms too, as the code makes them.
use Rattle.std.proofs.Common.{◌≡◌, ℕ, Bool, true, false, cond, Some, None, Ok, Err, refl, sym, ap, ◌∙◌}
use Rattle.std.specs.Prelude.{ℤ}
use Rattle.std.proofs.lemmas.Bool.{cond-true, cond-false}
use Rattle.std.proofs.lemmas.Option.{same_Some}
use Rattle.vhdl_names_rules.specs.declared.operator.Arithmetic.{Arithmetic}
use Rattle.vhdl_names_rules.specs.declared.operator.Arithmetic.TheVariants.{Multiply}
use Rattle.rtl_model.specs.bodies.Body as bodies
use Rattle.vhdl_expand_rules.specs.Elab.{Elab, Told, ◌>>=◌}
use Rattle.vhdl_expand_rules.specs.Computed.{Number, operation}
use Rattle.vhdl_expand_rules.specs.Linear.{Linear, Measured, is_static, one_term, times, linear_operation, measured_operation}
use Rattle.vhdl_expand_rules.proofs.Steps.{given}
use Rattle.vhdl_expand_numbers.specs.Terms.{static_factor}

abbrev pub measured_of : Number → Linear → Measured
measured_of n x = record { number = n; linear = x }

-- of operands that are these numbers and sums
module _ (at : ℕ) (op : Arithmetic) (x y : Measured) (a b : Number) (c d : Linear) (p : a ≡ x.number) (q : b ≡ y.number) (r : c ≡ x.linear) (s : d ≡ y.linear) where
  summed : Number → Elab Measured
  summed n = linear_operation at op c d n.digits >>= λ sum. given (measured_of n sum)

  whole : measured_operation at op x y ≡ (operation at op a b >>= summed)
  unfolding summed
  whole = λ i. operation at op (sym p i) (sym q i) >>= λ n. linear_operation at op (sym r i) (sym s i) n.digits >>= λ sum. given (measured_of n sum)

  pub operation_made : (n : Number) (z : Linear) → operation at op a b ≡ Ok n → linear_operation at op c d n.digits ≡ Ok z → measured_operation at op x y ≡ Ok (measured_of n z)
  unfolding summed
  operation_made n z h k = whole ∙ ap (λ e. e >>= summed) h ∙ ap (λ e. e >>= λ sum. given (measured_of n sum)) k

  pub operation_refused : (told : Told) → operation at op a b ≡ Err told → measured_operation at op x y ≡ Err told
  operation_refused told h = whole ∙ ap (λ e. e >>= summed) h

  pub sum_refused : (n : Number) (told : Told) → operation at op a b ≡ Ok n → linear_operation at op c d n.digits ≡ Err told → measured_operation at op x y ≡ Err told
  unfolding summed
  sum_refused n told h k = whole ∙ ap (λ e. e >>= summed) h ∙ ap (λ e. e >>= λ sum. given (measured_of n sum)) k

-- ---- products, of which a factor is static

static-some : (t : Bool) (n f : ℤ) → cond t (Some n) None ≡ Some f → (t ≡ true) × (n ≡ f)
static-some true n f h = (refl, same_Some n f h)
static-some false n f h = absurd cc

static-none : (t : Bool) (n : ℤ) → cond t (Some n) None ≡ None → t ≡ false
static-none true n h = absurd cc
static-none false n h = refl

module _ (at : ℕ) (x y : Linear) (e : bodies.Expr) where
  pub left_static : (f g : ℤ) → static_factor x ≡ Some f → g ≡ f → linear_operation at Multiply x y e ≡ times at g y
  left_static f g h is =
      let s = static-some (is_static x) x.rest f h in
      cond-true (is_static x) (times at x.rest y) _ s.0 ∙ ap (λ n. times at n y) (s.1 ∙ sym is)

  pub right_static : (f g : ℤ) → static_factor x ≡ None → static_factor y ≡ Some f → g ≡ f → linear_operation at Multiply x y e ≡ times at g x
  right_static f g none h is =
      let s = static-some (is_static y) y.rest f h in
      cond-false (is_static x) (times at x.rest y) _ (static-none (is_static x) x.rest none)
      ∙ cond-true (is_static y) (times at y.rest x) _ s.0 ∙ ap (λ n. times at n x) (s.1 ∙ sym is)

  pub none_static : static_factor x ≡ None → static_factor y ≡ None → linear_operation at Multiply x y e ≡ given (one_term e)
  none_static none too =
      cond-false (is_static x) (times at x.rest y) _ (static-none (is_static x) x.rest none)
      ∙ cond-false (is_static y) (times at y.rest x) (given (one_term e)) (static-none (is_static y) y.rest too)
