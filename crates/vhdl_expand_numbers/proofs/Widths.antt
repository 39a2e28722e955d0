-- How long expressions are that were extended.
use Rattle.std.proofs.Common.{◌≡◌, ℕ, ◌<◌, ◌≤◌, Bool, true, false, cond, ◌==◌, Result, Ok, Err, refl, sym, ap, ◌∙◌, arith}
use Rattle.std.specs.Prelude.{IfOk, nat_le}
use Rattle.std.proofs.lemmas.Bool.{eqb-true, eq-eqb, le-leb, lt-leb, cond-true, cond-false}
use Rattle.vhdl_values.specs.declared.kinds.Counted.TheVariants.{Resize, ResizeSigned}
use Rattle.rtl_model.specs.bodies.Body as bodies
use Rattle.rtl_model.specs.bodies.Fits.{width}
use Rattle.vhdl_expand_rules.specs.Computed.{Span, integers, covers, digits_needed, Number, extended, to_length}
use Rattle.vhdl_expand_rules.proofs.laws.Computed.{digits_are_few}

abbrev pub number_of : bodies.Expr → Span → Number
number_of e s = record { digits = e; span = s }

pub width_extended : (len : ℕ) (e : bodies.Expr) → width (extended len e) ≡ len
width_extended len e = by (width e == len) (λ t. eqb-true (width e) len t)
  where
    by : (t : Bool) → (t ≡ true → width e ≡ len) → width (cond t e (bodies.counted ResizeSigned len e)) ≡ len
    by true same = same refl
    by false same = refl

-- what has the length already isn't extended
pub same_length : (len : ℕ) (e : bodies.Expr) → width e ≡ len → extended len e ≡ e
same_length len e h = cond-true (width e == len) e (bodies.counted ResizeSigned len e) (eq-eqb (width e) len h)

-- within the integers no number has more than 32 digits
pub few_digits : (s : Span) (e d : bodies.Expr) (len m : ℕ) → covers integers s ≡ true → len ≡ digits_needed s → d ≡ extended len e → width d ≡ m → m ≤ 32
few_digits s e d len m h is made long =
    let few : digits_needed s ≤ 32 = digits_are_few s h in
    let w : width d ≡ len = ap width made ∙ width_extended len e in
    omega (arith, few, is, w, long)

-- as long as is asked for
module _ (len m : ℕ) (e : bodies.Expr) (long : width e ≡ m) where
  pub short_to : m ≤ len → extended len e ≡ to_length len e
  short_to h = sym (cond-true (nat_le (width e) len) (extended len e) (bodies.counted Resize len e) (le-leb (width e) len (omega (arith, h, long))))

  pub long_to : (count : ℕ) → count ≡ len → len < m → bodies.counted Resize count e ≡ to_length len e
  long_to count same h =
      (λ i. bodies.counted Resize (same i) e)
      ∙ sym (cond-false (nat_le (width e) len) (extended len e) (bodies.counted Resize len e) (lt-leb (width e) len (omega (arith, h, long))))

-- what is made is the same as another
pub made_along : {X Y E : Type 0} (v : X → Y) (r : Result X E) (a b : Y) → a ≡ b → IfOk r (λ x. v x ≡ a) → IfOk r (λ x. v x ≡ b)
made_along {X} {Y} {E} v (Ok x) a b e h = h ∙ e
made_along {X} {Y} {E} v (Err f) a b e h = h
