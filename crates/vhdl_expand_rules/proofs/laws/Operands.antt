-- Operands, and what operators and calls make of them, fit.
use Rattle.std.proofs.Common.{◌≡◌, ℕ, ◌+◌, ◌≤◌, true, ◌&&◌, ◌==◌, List, [], ◌∷◌, length, Option, Some, None, Ok, refl, sym, subst, arith}
use Rattle.std.specs.Prelude.{nat_le}
use Rattle.std.proofs.lemmas.Bool.{eqb-true, leb-true}
use Rattle.vhdl_values.specs.declared.scalar.Nine.{Nine}
use Rattle.vhdl_values.specs.declared.kinds.Counted.{Counted}
use Rattle.vhdl_values.specs.declared.kinds.Counted.TheVariants.{Resize, ResizeSigned, Shift}
use Rattle.vhdl_values.specs.Numbers.{digits_of}
use Rattle.vhdl_values.specs.Shifts.{IsCount}
use Rattle.vhdl_values.proofs.Digits.{length-digits_of}
use Rattle.rtl_model.specs.bodies.Types.{nine_valued}
use Rattle.rtl_model.specs.bodies.Fits.{width, IsWidth}
use Rattle.rtl_model.specs.bodies.Body as bodies
use Rattle.vhdl_names_rules.specs.declared.operator.Numeric.{Numeric}
use Rattle.vhdl_names_rules.specs.declared.operator.Numeric.TheVariants.{Add, Subtract, Multiply}
use Rattle.vhdl_names_rules.specs.declared.operator.VectorOperator.{VectorOperator}
use Rattle.vhdl_names_rules.specs.declared.operator.VectorOperator.TheVariants as v
use Rattle.vhdl_names_rules.specs.units.Expressions.{Static, Vector}
use Rattle.vhdl_names_rules.specs.sound.Expressions.{Inside, Shape, one, vector, state, number, is_elements, is_vector, same_shape, operated_shape, static_fits, with_static, is_vector_shape, vector_shape}
use Rattle.vhdl_expand_rules.specs.declared.fault.ElabProblem.TheVariants.{Length, Index, TooWide}
use Rattle.vhdl_expand_rules.specs.Elab.{unless}
use Rattle.vhdl_expand_rules.specs.Integers.{Integers, natural}
use Rattle.vhdl_expand_rules.specs.Kinds.{as_size, size_of, count_of}
use Rattle.vhdl_expand_rules.specs.Computed.{Number, natural_digits}
use Rattle.vhdl_expand_rules.specs.Site.{Site}
use Rattle.vhdl_expand_rules.specs.Expressions.{operands_fit, operation_on, numeric, operator}
use Rattle.vhdl_expand_rules.specs.laws.Expressions.{type_of, IsVector}
use Rattle.vhdl_expand_rules.proofs.Steps.{ok, bound, kept}
use Rattle.vhdl_expand_rules.proofs.Options.{step, given_some}
use Rattle.vhdl_expand_rules.proofs.laws.Computed.{max-is_width, IsNumber, natural_digits_long}
use Rattle.vhdl_expand_rules.proofs.laws.Names.{is_width}

pub elements_are_nine : (s : Shape) → is_elements s ≡ true → type_of s ≡ nine_valued
elements_are_nine (state count) h = absurd cc
elements_are_nine _ h = refl

pub vector_width : (here : Site) (s : Shape) (e : bodies.Expr) → IsVector here s e → IsWidth (width e)
vector_width here s e h = is_width s (width e) h.width

one-is_width : IsWidth 1
one-is_width = (omega arith, omega arith)

pub one_character : (here : Site) (x : Nine) → IsVector here one (bodies.constant (x ∷ []))
one_character here x = record { of_elements = refl; fits = one-is_width; width = refl }

pub constant_vector : (here : Site) (vs : List Nine) → IsWidth (length vs) → IsVector here vector (bodies.constant vs)
constant_vector here vs h = record { of_elements = refl; fits = h; width = h }

-- ---- sizes

pub asked : (at n m : ℕ) → as_size at n ≡ Ok m → IsWidth n × (n ≡ m)
asked at n m h =
    let low = bound (unless Index at (nat_le 1 n)) _ m h in
    let high = bound (unless TooWide at (nat_le n 64)) _ m low.then_gave in
    ((leb-true 1 n (kept Index at (nat_le 1 n) low.x low.gave), leb-true n 64 (kept TooWide at (nat_le n 64) high.x high.gave)), ok n m high.then_gave)

pub size_is_width : (here : Integers) (at : ℕ) (s : Static) (n : ℕ) → size_of here at s ≡ Ok n → IsWidth n
unfolding size_of
size_is_width here at s n h =
    let m = bound (natural here at s) _ n h in
    let a = asked at m.x n m.then_gave in
    subst IsWidth a.1 a.0

pub count_is_count : (op : Counted) (here : Integers) (at : ℕ) (s : Static) (n : ℕ) → count_of op here at s ≡ Ok n → IsCount op n
unfolding count_of
count_is_count Resize here at s n h = size_is_width here at s n h
count_is_count ResizeSigned here at s n h = size_is_width here at s n h
count_is_count (Shift by) here at s n h = tt

-- ---- operators

sum-is_width : (m n : ℕ) → IsWidth m → nat_le (m + n) 64 ≡ true → IsWidth (m + n)
sum-is_width m n h g = let a : 1 ≤ m = h.0 in (omega (arith, a), leb-true (m + n) 64 g)

-- an operator but the logical ones
pub arithmetic : (here : Site) (at : ℕ) (op : Numeric) (s t : Shape) (d e r : bodies.Expr) → IsVector here s d → IsVector here t e → operation_on at (numeric op) d e ≡ Ok r → IsVector here vector r
arithmetic here at Add s t d e r h g m =
    let w = max-is_width (width d) (width e) (vector_width here s d h) (vector_width here t e g) in
    subst (IsVector here vector) (ok (bodies.binary bodies.plus d e) r m) (record { of_elements = refl; fits = (w, h.fits, g.fits, tt); width = w })
arithmetic here at Subtract s t d e r h g m =
    let w = max-is_width (width d) (width e) (vector_width here s d h) (vector_width here t e g) in
    subst (IsVector here vector) (ok (bodies.binary bodies.minus d e) r m) (record { of_elements = refl; fits = (w, h.fits, g.fits, tt); width = w })
arithmetic here at Multiply s t d e r h g m =
    let fit = bound (operands_fit at bodies.times (width d) (width e)) _ r m in
    let w = sum-is_width (width d) (width e) (vector_width here s d h) (kept TooWide at (nat_le (width d + width e) 64) fit.x fit.gave) in
    subst (IsVector here vector) (ok (bodies.binary bodies.times d e) r fit.then_gave) (record { of_elements = refl; fits = (w, h.fits, g.fits, tt); width = w })

pub operated-fits : (here : Site) (at : ℕ) (op : VectorOperator) (s t z : Shape) (d e r : bodies.Expr) → IsVector here s d → IsVector here t e → operated_shape op s t ≡ Some z → operation_on at (operator op) d e ≡ Ok r
    → IsVector here z r
operated-fits here at (v.Logical op) s t z d e r h g k m =
    let fit = bound (operands_fit at (bodies.logical op) (width d) (width e)) _ r m in
    let same : width d ≡ width e = eqb-true (width d) (width e) (kept (Length (width d) (width e)) at (width d == width e) fit.x fit.gave) in
    subst (λ (y : Shape). IsVector here y r) (given_some (same_shape s t && is_elements s) s z k).1
    (subst (IsVector here s) (ok (bodies.binary (bodies.logical op) d e) r fit.then_gave)
    (record { of_elements = h.of_elements; fits = (vector_width here s d h, h.fits, g.fits, same); width = h.width }))
operated-fits here at v.Concatenate s t z d e r h g k m =
    let fit = bound (operands_fit at bodies.joined (width d) (width e)) _ r m in
    let w = sum-is_width (width d) (width e) (vector_width here s d h) (kept TooWide at (nat_le (width d + width e) 64) fit.x fit.gave) in
    subst (λ (y : Shape). IsVector here y r) (given_some (is_elements s && is_elements t) vector z k).1
    (subst (IsVector here vector) (ok (bodies.binary bodies.joined d e) r fit.then_gave) (record { of_elements = refl; fits = (w, h.fits, g.fits, tt); width = w }))
operated-fits here at (v.Arithmetic op) s t z d e r h g k m =
    subst (λ (y : Shape). IsVector here y r) (given_some (is_vector s && is_vector t) vector z k).1 (arithmetic here at op s t d e r h g m)

-- a number with as many digits as what stands beside it
pub beside : (here : Site) (s : Shape) (e : bodies.Expr) (n : ℕ) → IsVector here s e → IsVector here vector (bodies.constant (digits_of (width e) n))
beside here s e n h = constant_vector here (digits_of (width e) n) (subst IsWidth (sym (length-digits_of (width e) n)) (vector_width here s e h))

-- a computed one likewise
pub computed-beside : (here : Site) (s : Shape) (e : bodies.Expr) (x : Number) → IsVector here s e → IsNumber here x → IsVector here vector (natural_digits (width e) x)
computed-beside here s e x h k =
    let w = vector_width here s e h in
    let long = natural_digits_long here (width e) x w k in
    record { of_elements = refl; fits = long.fits; width = subst IsWidth (sym long.long) w }

-- what is said to be a vector is one
pub vector-shape : (o : Option Shape) → is_vector_shape o ≡ true → o ≡ Some vector
vector-shape (Some vector) h = refl
vector-shape (Some one) h = absurd cc
vector-shape (Some (state n)) h = absurd cc
vector-shape (Some number) h = absurd cc
vector-shape None h = absurd cc

-- with a static integer: a vector's shape, and what comes of it
pub record WithStatic (i : Inside) (v : Vector) (z : Shape) : Type 0 where
  pub shape : Shape
  pub is : vector_shape i v ≡ Some shape
  pub result : vector ≡ z

pub static-shape : (i : Inside) (v : Vector) (s : Static) (z : Shape) → with_static i (vector_shape i v) s ≡ Some z → WithStatic i v z
static-shape i v s z h =
    let y = step (vector_shape i v) _ z h in
    record { shape = y.x; is = y.gave; result = (given_some (is_vector y.x && static_fits i s) vector z y.then_gave).1 }
