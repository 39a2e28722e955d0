-- What is refused of sums of terms, and of slices that a run chooses, is told at the byte that is given.
use Rattle.std.proofs.Common.{ℕ, ◌+◌, not, List, [], ◌∷◌, length}
use Rattle.std.specs.Prelude.{ℤ, pos, neg_ℤ, ◌+ℤ◌, ◌*ℤ◌, nat_le, nat_abs, int_le}
use Rattle.vhdl_tree.specs.declared.operator.Direction.{Direction}
use Rattle.vhdl_tree.specs.declared.operator.Direction.TheVariants.{To, Downto}
use Rattle.vhdl_names_rules.specs.declared.operator.Arithmetic.{Arithmetic}
use Rattle.vhdl_names_rules.specs.declared.operator.Arithmetic.TheVariants.{Add, Subtract, Multiply, Divide, Modulo, Remainder, Power}
use Rattle.rtl_model.specs.bodies.Body as bodies
use Rattle.rtl_model.specs.bodies.Fits.{width}
use Rattle.vhdl_expand_rules.specs.declared.fault.ElabProblem.TheVariants.{StaticError, Index, TooWide}
use Rattle.vhdl_expand_rules.specs.Elab.{Told, unless, each}
use Rattle.vhdl_expand_rules.specs.Integers.{checked_integer, is_same_direction}
use Rattle.vhdl_expand_rules.specs.Kinds.{Bounds, bounds_size}
use Rattle.vhdl_expand_rules.specs.Computed.{Number, number_of, number_read, quotient, modulus, remainder, is_zero, divided_with, operation}
use Rattle.vhdl_expand_rules.specs.SameExpr.{same_expr}
use Rattle.vhdl_expand_rules.specs.Linear.{Term, Linear, Measured, is_static, with_factor, with_term, with_terms, most_terms, added, times, opposite, less, linear_operation, negative_measured, measured_operation}
use Rattle.vhdl_expand_rules.specs.Expressions.{distance, slice_length}
use Rattle.vhdl_expand_rules.proofs.Tells.{Tells, At, tells_none, tells_refused, tells_then, tells_unless, tells_all}
use Rattle.vhdl_expand_rules.proofs.laws.told.Static.{tells_chosen, checked_tells}

module _ (P : Told → Type 0) (at : ℕ) (own : At P at) where
  -- ---- numbers

  pub read_tells : (e : bodies.Expr) → Tells P (number_read at e)
  read_tells e =
      tells_then P (unless TooWide at (nat_le (width e) 63)) _ (tells_unless P TooWide tt at (nat_le (width e) 63) own) (λ few. tells_none P (number_of e))

  divided-tells : (by : Number → Number → Number) (x y : Number) → Tells P (divided_with at by x y)
  divided-tells by x y =
      tells_then P (unless StaticError at (not (is_zero y))) _ (tells_unless P StaticError tt at (not (is_zero y)) own) (λ some. tells_none P (by x y))

  pub number_operation_tells : (op : Arithmetic) (x y : Number) → Tells P (operation at op x y)
  number_operation_tells Add x y = tells_none P _
  number_operation_tells Subtract x y = tells_none P _
  number_operation_tells Multiply x y = tells_none P _
  number_operation_tells Divide x y = divided-tells quotient x y
  number_operation_tells Modulo x y = divided-tells modulus x y
  number_operation_tells Remainder x y = divided-tells remainder x y
  number_operation_tells Power x y = tells_refused P StaticError tt at own

  -- ---- sums

  factor-tells : (t : Term) (n : ℤ) → Tells P (with_factor at t n)
  factor-tells t n = tells_then P (checked_integer at n) _ (checked_tells P at n own) (λ m. tells_none P _)

  term-tells : (ss : List Term) (t : Term) → Tells P (with_term at ss t)
  term-tells [] t = tells_none P _
  term-tells (s ∷ ss) t =
      tells_chosen P (same_expr s.number t.number) _ _
      (tells_then P (with_factor at s (s.factor +ℤ t.factor)) _ (factor-tells s (s.factor +ℤ t.factor)) (λ new. tells_none P _))
      (tells_then P (with_term at ss t) _ (term-tells ss t) (λ rest. tells_none P _))

  terms-tell : (ts ss : List Term) → Tells P (with_terms at ss ts)
  terms-tell [] ss = tells_none P ss
  terms-tell (t ∷ ts) ss = tells_then P (with_term at ss t) _ (term-tells ss t) (λ more. terms-tell ts more)

  added-tells : (x y : Linear) → Tells P (added at x y)
  unfolding added
  added-tells x y =
      tells_then P (checked_integer at (x.rest +ℤ y.rest)) _ (checked_tells P at (x.rest +ℤ y.rest) own) (λ rest.
      tells_then P (with_terms at x.terms y.terms) _ (terms-tell y.terms x.terms) (λ terms.
      tells_then P (unless StaticError at (nat_le (length terms) most_terms)) _ (tells_unless P StaticError tt at (nat_le (length terms) most_terms) own) (λ few. tells_none P _)))

  times-tells : (n : ℤ) (x : Linear) → Tells P (times at n x)
  unfolding times
  times-tells n x =
      tells_then P (checked_integer at (n *ℤ x.rest)) _ (checked_tells P at (n *ℤ x.rest) own) (λ rest.
      tells_then P (each (λ (t : Term). with_factor at t (n *ℤ t.factor)) x.terms) _
      (tells_all P (λ (t : Term). with_factor at t (n *ℤ t.factor)) x.terms (λ t. factor-tells t (n *ℤ t.factor))) (λ terms. tells_none P _))

  opposite-tells : (x : Linear) → Tells P (opposite at x)
  opposite-tells x = times-tells (neg_ℤ (pos 1)) x

  less-tells : (x y : Linear) → Tells P (less at x y)
  less-tells x y = tells_then P (opposite at y) _ (opposite-tells y) (λ minus. added-tells x minus)

  linear-tells : (op : Arithmetic) (x y : Linear) (e : bodies.Expr) → Tells P (linear_operation at op x y e)
  linear-tells Add x y e = added-tells x y
  linear-tells Subtract x y e = less-tells x y
  linear-tells Multiply x y e =
      tells_chosen P (is_static x) _ _ (times-tells x.rest y) (tells_chosen P (is_static y) _ _ (times-tells y.rest x) (tells_none P _))
  linear-tells _ x y e = tells_none P _

  pub negative_tells : (x : Measured) → Tells P (negative_measured at x)
  negative_tells x = tells_then P (opposite at x.linear) _ (opposite-tells x.linear) (λ linear. tells_none P _)

  pub measured_operation_tells : (op : Arithmetic) (x y : Measured) → Tells P (measured_operation at op x y)
  measured_operation_tells op x y =
      tells_then P (operation at op x.number y.number) _ (number_operation_tells op x.number y.number) (λ n.
      tells_then P (linear_operation at op x.linear y.linear n.digits) _ (linear-tells op x.linear y.linear n.digits) (λ linear. tells_none P _))

  -- ---- slices

  distance-tells : (d : Direction) (l r : Linear) → Tells P (distance at d l r)
  distance-tells To l r = less-tells r l
  distance-tells Downto l r = less-tells l r

  pub slice_tells : (b : Bounds) (d : Direction) (l r : Linear) → Tells P (slice_length b at d l r)
  unfolding slice_length
  slice_tells b d l r =
      tells_then P (unless Index at (is_same_direction b.direction d)) _ (tells_unless P Index tt at (is_same_direction b.direction d) own) (λ same.
      tells_then P (distance at d l r) _ (distance-tells d l r) (λ far.
      tells_then P (unless StaticError at (is_static far)) _ (tells_unless P StaticError tt at (is_static far) own) (λ static.
      tells_then P (unless Index at (int_le (pos 0) far.rest)) _ (tells_unless P Index tt at (int_le (pos 0) far.rest) own) (λ some.
      tells_then P (unless Index at (nat_le (nat_abs far.rest + 1) (bounds_size b))) _ (tells_unless P Index tt at (nat_le (nat_abs far.rest + 1) (bounds_size b)) own) (λ few.
      tells_none P _)))))
