-- Sums of static multiples of what a run computes: the bounds of a slice that a run chooses are such, and differ by a
-- static number (IEEE 1076-2008, 8.5).
use Rattle.std.specs.Prelude.{ℕ, ◌==◌, Bool, if◌then◌else◌, List, [], ◌∷◌, length, ℤ, pos, neg_ℤ, ◌+ℤ◌, ◌*ℤ◌, nat_abs, nat_le, Ok}
use Rattle.std.specs.List.{list_all}
use Rattle.vhdl_names_rules.specs.declared.operator.Arithmetic.{Arithmetic}
use Rattle.vhdl_names_rules.specs.declared.operator.Arithmetic.TheVariants.{Add, Subtract, Multiply}
use Rattle.rtl_model.specs.bodies.Body as bodies
use Rattle.vhdl_expand_rules.specs.declared.fault.ElabProblem.TheVariants.{StaticError}
use Rattle.vhdl_expand_rules.specs.Elab.{Elab, ◌>>=◌, ◌>>◌, each, unless}
use Rattle.vhdl_expand_rules.specs.Integers.{checked_integer}
use Rattle.vhdl_expand_rules.specs.Computed.{Number, known, negative_of, operation}
use Rattle.vhdl_expand_rules.specs.SameExpr.{same_expr}

-- a computed number, so many times
pub record Term : Type 0 where
  pub number : bodies.Expr
  pub factor : ℤ

-- terms, no two of one number, and a static rest
pub record Linear : Type 0 where
  pub terms : List Term
  pub rest : ℤ

abbrev pub static_rest : ℤ → Linear
static_rest n = record { terms = []; rest = n }

abbrev pub one_term : bodies.Expr → Linear
one_term e = record { terms = record { number = e; factor = pos 1 } ∷ []; rest = pos 0 }

abbrev pub falls_out : Term → Bool
falls_out t = nat_abs t.factor == 0

abbrev pub is_static : Linear → Bool
is_static x = list_all falls_out x.terms

-- ---- sums and products, at an operator: factors and the rest are static integers as any other

abbrev pub with_factor : (at : ℕ) → Term → ℤ → Elab Term
with_factor at t n = do
  factor ← checked_integer at n
  Ok (record t { factor = factor })

-- with a term more
abbrev pub with_term : (at : ℕ) → List Term → Term → Elab (List Term)
with_term at [] t = Ok (t ∷ [])
with_term at (s ∷ ss) t =
    if same_expr s.number t.number then (with_factor at s (s.factor +ℤ t.factor) >>= λ new. Ok (new ∷ ss))
    else (with_term at ss t >>= λ rest. Ok (s ∷ rest))

abbrev pub with_terms : (at : ℕ) → List Term → List Term → Elab (List Term)
with_terms at ss [] = Ok ss
with_terms at ss (t ∷ ts) = do
  more ← with_term at ss t
  with_terms at more ts

-- how many terms a sum may have (own): each is compared with each
abbrev pub most_terms : ℕ
most_terms = 64

unfoldable pub added : (at : ℕ) → Linear → Linear → Elab Linear
added at x y = do
  rest ← checked_integer at (x.rest +ℤ y.rest)
  terms ← with_terms at x.terms y.terms
  unless StaticError at (nat_le (length terms) most_terms)
  Ok (record { terms = terms; rest = rest })

unfoldable pub times : (at : ℕ) → ℤ → Linear → Elab Linear
times at n x = do
  rest ← checked_integer at (n *ℤ x.rest)
  terms ← each (λ (t : Term). with_factor at t (n *ℤ t.factor)) x.terms
  Ok (record { terms = terms; rest = rest })

abbrev pub opposite : (at : ℕ) → Linear → Elab Linear
opposite at x = times at (neg_ℤ (pos 1)) x

abbrev pub less : (at : ℕ) → Linear → Linear → Elab Linear
less at x y = do
  minus ← opposite at y
  added at x minus

-- one factor is static, or all of the product is a term
abbrev pub multiplied : (at : ℕ) → Linear → Linear → bodies.Expr → Elab Linear
multiplied at x y e =
    if is_static x then times at x.rest y else if is_static y then times at y.rest x else Ok (one_term e)

-- an operator on two sums, where this is the number that it gives
abbrev pub linear_operation : (at : ℕ) → Arithmetic → Linear → Linear → bodies.Expr → Elab Linear
linear_operation at Add x y e = added at x y
linear_operation at Subtract x y e = less at x y
linear_operation at Multiply x y e = multiplied at x y e
linear_operation at op x y e = Ok (one_term e)

-- ---- a number, and the same as a sum of terms

pub record Measured : Type 0 where
  pub number : Number
  pub linear : Linear

abbrev pub known_measured : ℤ → Measured
known_measured n = record { number = known n; linear = static_rest n }

abbrev pub as_term : Number → Measured
as_term n = record { number = n; linear = one_term n.digits }

abbrev pub negative_measured : (at : ℕ) → Measured → Elab Measured
negative_measured at x = do
  linear ← opposite at x.linear
  Ok (record { number = negative_of x.number; linear = linear })

abbrev pub measured_operation : (at : ℕ) → Arithmetic → Measured → Measured → Elab Measured
measured_operation at op x y = do
  n ← operation at op x.number y.number
  linear ← linear_operation at op x.linear y.linear n.digits
  Ok (record { number = n; linear = linear })
