-- Integers that a run computes, as vectors (IEEE 1076-2008, 5.2.3, 9.2; numeric_std). Each stands in two's complement,
-- in the fewest digits that hold every number between two bounds, which are found from the text. A number that is good
-- lies between its bounds: digits are cut to their length, a number that can't lie outside limits is not asked whether
-- it does, and a case is complete by them. What keeps objects of integer types within their ranges: their defaults,
-- what is assigned to them, what ports are joined with, and what a stimulus gives. A number outside the integers is X
-- (own): the standard has an error there.
use Rattle.std.specs.Prelude.{ℕ, ◌*◌, ◌-◌, ◌^◌, ◌==◌, max, Bool, not, ◌&&◌, ◌||◌, nat_lt, nat_le, if◌then◌else◌, List, [], ◌∷◌, replicate, find, unwrap_or}
use Rattle.std.specs.Prelude.{ℤ, pos, negsuc, neg_ℤ, ◌+ℤ◌, ◌-ℤ◌, ◌*ℤ◌, int_div, int_le, int_lt, nat_abs, Ok}
use Rattle.std.specs.List.{range_with_len}
use Rattle.vhdl_lexer.specs.Literals.{greatest_integer}
use Rattle.vhdl_values.specs.declared.scalar.Nine.{Nine}
use Rattle.vhdl_values.specs.declared.scalar.Nine.TheVariants.{Zero, One}
use Rattle.vhdl_values.specs.declared.kinds.Cmp.{Cmp}
use Rattle.vhdl_values.specs.declared.kinds.Logic.TheVariants.{Xor}
use Rattle.vhdl_values.specs.declared.kinds.Counted.TheVariants.{Resize, ResizeSigned}
use Rattle.vhdl_numbers.specs.declared.kinds.Conversion.TheVariants.{Cleaned, Within, Magnitude}
use Rattle.vhdl_numbers.specs.declared.kinds.SignedOperator.TheVariants as signed
use Rattle.vhdl_numbers.specs.TwosComplement.{signed_digits_of}
use Rattle.vhdl_names_rules.specs.declared.operator.Arithmetic.{Arithmetic}
use Rattle.vhdl_names_rules.specs.declared.operator.Arithmetic.TheVariants.{Add, Subtract, Multiply, Divide, Modulo, Remainder, Power}
use Rattle.rtl_model.specs.bodies.Body as bodies
use Rattle.rtl_model.specs.bodies.Fits.{width}
use Rattle.vhdl_expand_rules.specs.declared.fault.ElabProblem.TheVariants.{StaticError, TooWide}
use Rattle.vhdl_expand_rules.specs.Elab.{Elab, ◌>>◌, refused, unless}
use Rattle.vhdl_expand_rules.specs.Integers.{least_integer, is_negative}

-- ---- bounds

abbrev pub minimum : ℤ → ℤ → ℤ
minimum x y = if int_le x y then x else y

abbrev pub maximum : ℤ → ℤ → ℤ
maximum x y = if int_le x y then y else x

pub record Span : Type 0 where
  pub least : ℤ
  pub greatest : ℤ

abbrev pub span : (least greatest : ℤ) → Span
span x y = record { least = x; greatest = y }

-- those of all integers, and of the natural ones (5.2.3.2, 16.3)
abbrev pub integers : Span
integers = span least_integer (pos greatest_integer)

abbrev pub naturals : Span
naturals = span (pos 0) (pos greatest_integer)

abbrev pub is_span : Span → Bool
is_span s = int_le s.least s.greatest

abbrev pub has : Span → ℤ → Bool
has s x = int_le s.least x && int_le x s.greatest

abbrev pub covers : Span → Span → Bool
covers s t = has s t.least && has s t.greatest

-- what of some bounds lies in others; where nothing does, the nearest number
abbrev pub held_in : Span → ℤ → ℤ
held_in s x = maximum s.least (minimum s.greatest x)

abbrev pub cut_to : Span → Span → Span
cut_to s t = span (held_in s t.least) (held_in s t.greatest)

-- ---- digits

-- whether so many digits, one at least, hold a number in two's complement
abbrev pub hold : (digits : ℕ) → ℤ → Bool
hold n (pos m) = nat_lt (m * 2) (2 ^ n)
hold n (negsuc m) = nat_lt (m * 2) (2 ^ n)

unfoldable pub digits_needed : Span → ℕ
digits_needed s = unwrap_or (find (λ n. hold n s.least && hold n s.greatest) (range_with_len 1 64)) 64

-- a number as an expression, and the bounds that it lies between, where it is good
pub record Number : Type 0 where
  pub digits : bodies.Expr
  pub span : Span

-- to this length by the sign: the number stays, where the length holds it
abbrev pub extended : (len : ℕ) → bodies.Expr → bodies.Expr
extended len e = if width e == len then e else bodies.counted ResizeSigned len e

abbrev pub fitted : Span → bodies.Expr → Number
fitted s e = record { digits = extended (digits_needed s) e; span = s }

-- X where it doesn't lie within these limits
unfoldable pub limited : (limits : Span) → Span → bodies.Expr → Number
limited limits s e =
    if covers limits s then fitted s e
    else fitted (cut_to limits s) (bodies.converted (Within limits.least limits.greatest) e)

abbrev pub within : Span → Number → Number
within limits x = limited limits x.span x.digits

-- ---- numbers

unfoldable pub known : ℤ → Number
known n =
    limited integers (span n n) (bodies.constant (signed_digits_of (digits_needed (span n n)) n))

-- TO_INTEGER of a number without a sign (numeric_std, D.1)
unfoldable pub number_of : bodies.Expr → Number
number_of e =
    limited integers (span (pos 0) (pos (2 ^ width e - 1)))
    (bodies.Expr.binary bodies.joined (bodies.constant (Zero ∷ [])) (bodies.converted Cleaned e))

-- to_integer, whose name starts here
abbrev pub number_read : (at : ℕ) → bodies.Expr → Elab Number
number_read at e = do
  unless TooWide at (nat_le (width e) 63)
  Ok (number_of e)

-- ---- operators (9.2.5 to 9.2.8)

-- the longest of some lengths, to which both operands are extended
abbrev pub on_both : bodies.Operator → Span → Number → Number → Number
on_both op s x y = limited integers s (bodies.Expr.binary op (extended len x.digits) (extended len y.digits))
  where
    len : ℕ
    len = max (digits_needed s) (max (width x.digits) (width y.digits))

unfoldable pub sum_span : Span → Span → Span
sum_span s t = span (s.least +ℤ t.least) (s.greatest +ℤ t.greatest)

unfoldable pub difference_span : Span → Span → Span
difference_span s t = span (s.least -ℤ t.greatest) (s.greatest -ℤ t.least)

unfoldable pub sum : Number → Number → Number
sum x y = on_both bodies.plus (sum_span x.span y.span) x y

unfoldable pub difference : Number → Number → Number
difference x y = on_both bodies.minus (difference_span x.span y.span) x y

unfoldable pub product_span : Span → Span → Span
product_span s t = span
    (minimum (minimum (s.least *ℤ t.least) (s.least *ℤ t.greatest))
    (minimum (s.greatest *ℤ t.least) (s.greatest *ℤ t.greatest)))
    (maximum (maximum (s.least *ℤ t.least) (s.least *ℤ t.greatest))
    (maximum (s.greatest *ℤ t.least) (s.greatest *ℤ t.greatest)))

unfoldable pub product : Number → Number → Number
product x y =
    limited integers (product_span x.span y.span)
    (bodies.Expr.binary (bodies.signed signed.Multiply) x.digits y.digits)

-- how far from 0 a number between bounds may lie
unfoldable pub reach : Span → ℤ
reach s = maximum (pos (nat_abs s.least)) (pos (nat_abs s.greatest))

-- A quotient is rounded toward 0. Its bounds are those of the dividend by the least divisor, which is 1 at least, or if
-- that may be negative, the dividend's and their negatives.
unfoldable pub quotient_span : Span → Span → Span
quotient_span s t = if is_negative t.least then span (neg_ℤ (reach s)) (reach s) else by (maximum (pos 1) t.least)
  where
    by : ℤ → Span
    by d = span (minimum (pos 0) (int_div s.least d)) (maximum (pos 0) (int_div s.greatest d))

-- it is as long as the dividend, which one by -1 may pass by a digit
unfoldable pub quotient : Number → Number → Number
quotient x y = limited integers s (bodies.Expr.binary (bodies.signed signed.Divide) (extended len x.digits) y.digits)
  where
    s : Span
    s = quotient_span x.span y.span

    len : ℕ
    len = max (digits_needed s) (width x.digits)

-- nearer to 0 than the divisor: with its sign, or the dividend's
unfoldable pub modulus_span : Span → Span
modulus_span t = span (minimum (pos 0) (t.least +ℤ pos 1)) (maximum (pos 0) (t.greatest -ℤ pos 1))

unfoldable pub remainder_span : Span → Span → Span
remainder_span s t =
    span (if is_negative s.least then neg_ℤ most else pos 0) (if int_lt (pos 0) s.greatest then most else pos 0)
  where
    most : ℤ
    most = maximum (pos 0) (reach t -ℤ pos 1)

unfoldable pub modulus : Number → Number → Number
modulus x y =
    limited integers (modulus_span y.span) (bodies.Expr.binary (bodies.signed signed.Modulo) x.digits y.digits)

unfoldable pub remainder : Number → Number → Number
remainder x y =
    limited integers (remainder_span x.span y.span)
    (bodies.Expr.binary (bodies.signed signed.Remainder) x.digits y.digits)

abbrev pub negative_of : Number → Number
negative_of x = difference (known (pos 0)) x

unfoldable pub magnitude_span : Span → Span
magnitude_span s = span (maximum (pos 0) (maximum s.least (neg_ℤ s.greatest))) (reach s)

-- the least number has no counterpart in as many digits
unfoldable pub magnitude : Number → Number
magnitude x = limited integers (magnitude_span x.span) (bodies.converted Magnitude (extended len x.digits))
  where
    len : ℕ
    len = max (digits_needed (span (pos 0) (reach x.span))) (width x.digits)

abbrev pub is_zero : Number → Bool
is_zero x = int_le (pos 0) x.span.least && int_le x.span.greatest (pos 0)

-- a divisor that is always 0 is refused, as a static one is
abbrev pub divided_with : (at : ℕ) → (Number → Number → Number) → Number → Number → Elab Number
divided_with at by x y = do
  unless StaticError at (not (is_zero y))
  Ok (by x y)

abbrev pub operation : (at : ℕ) → Arithmetic → Number → Number → Elab Number
operation at Add x y = Ok (sum x y)
operation at Subtract x y = Ok (difference x y)
operation at Multiply x y = Ok (product x y)
operation at Divide x y = divided_with at quotient x y
operation at Modulo x y = divided_with at modulus x y
operation at Remainder x y = divided_with at remainder x y
-- in units that names have passed no run computes a power
operation at Power x y = refused StaticError at

-- ---- relations (9.2.3)

-- with the sign turned round, numbers are ordered as those without one
unfoldable pub top_digit : (len : ℕ) → List Nine
top_digit len = One ∷ replicate (len - 1) Zero

unfoldable pub turned : (len : ℕ) → bodies.Expr → bodies.Expr
turned len e = bodies.Expr.binary (bodies.logical Xor) (extended len e) (bodies.constant (top_digit len))

abbrev pub may_be_negative : Number → Bool
may_be_negative x = is_negative x.span.least

unfoldable pub relation : Cmp → Number → Number → bodies.Test
relation op x y =
    if may_be_negative x || may_be_negative y then bodies.compared op (turned len x.digits) (turned len y.digits)
    else bodies.compared op x.digits y.digits
  where
    len : ℕ
    len = max (width x.digits) (width y.digits)

-- ---- numbers beside vectors, where numeric_std asks for a natural one

unfoldable pub natural : Number → bodies.Expr
natural x = (within naturals x).digits

-- the last digits, as many as the vector has (TO_UNSIGNED, D.3)
abbrev pub to_length : (len : ℕ) → bodies.Expr → bodies.Expr
to_length len e = if nat_le (width e) len then extended len e else bodies.counted Resize len e

unfoldable pub natural_digits : (len : ℕ) → Number → bodies.Expr
natural_digits len x = to_length len (natural x)
