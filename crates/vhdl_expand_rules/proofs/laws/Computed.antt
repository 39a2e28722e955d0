-- Numbers that a run computes are expressions that fit, of 1 to 32 elements.
use Rattle.std.proofs.Common.{◌≡◌, ℕ, suc, ◌+◌, ◌-◌, ◌*◌, ◌^◌, ◌≤◌, Bool, true, false, cond, not, ◌&&◌, ◌||◌, ◌==◌, [], ◌∷◌, length, replicate, Ok, refl, sym, ◌∙◌, subst, arith}
use Rattle.std.specs.Prelude.{ℤ, pos, negsuc, int_le, int_lt, nat_le, nat_abs, max}
use Rattle.std.proofs.lemmas.Int.{ints}
use Rattle.std.proofs.lemmas.Bool.{and_parts, and_from, eqb-true, leb-true, lt-ltb}
use Rattle.std.proofs.lemmas.List.{length-replicate}
use Rattle.vhdl_lexer.specs.Literals.{greatest_integer}
use Rattle.vhdl_tree.specs.declared.operator.Direction.{Direction}
use Rattle.vhdl_tree.specs.declared.operator.Direction.TheVariants.{To, Downto}
use Rattle.vhdl_values.specs.declared.scalar.Nine.TheVariants.{Zero}
use Rattle.vhdl_values.specs.declared.kinds.Cmp.{Cmp}
use Rattle.vhdl_values.specs.declared.kinds.Counted.TheVariants.{Resize, ResizeSigned}
use Rattle.vhdl_numbers.specs.declared.kinds.Conversion.TheVariants.{Cleaned, Within, Magnitude}
use Rattle.vhdl_numbers.specs.declared.kinds.SignedOperator.TheVariants as signed
use Rattle.vhdl_numbers.specs.TwosComplement.{signed_digits_of}
use Rattle.vhdl_numbers.proofs.Lengths.{length-signed_digits_of}
use Rattle.vhdl_names_rules.specs.declared.operator.Arithmetic.{Arithmetic}
use Rattle.vhdl_names_rules.specs.declared.operator.Arithmetic.TheVariants.{Add, Subtract, Multiply, Divide, Modulo, Remainder, Power}
use Rattle.rtl_model.specs.bodies.Body as bodies
use Rattle.rtl_model.specs.bodies.Fits.{width, IsWidth, FitsExpr, FitsTest}
use Rattle.vhdl_expand_rules.specs.declared.fault.ElabProblem.TheVariants.{StaticError, Index, TooWide}
use Rattle.vhdl_expand_rules.specs.Elab.{unless}
use Rattle.vhdl_expand_rules.specs.Integers.{IntegerRange, is_null, is_same_direction}
use Rattle.vhdl_expand_rules.specs.Kinds.{Bounds, bounds_size, range_span, number_size}
use Rattle.vhdl_expand_rules.specs.Computed as n
use Rattle.vhdl_expand_rules.specs.Computed.{Span, span, integers, naturals, is_span, has, covers, minimum, maximum, held_in, cut_to, hold, digits_needed, Number, extended, fitted, limited, to_length}
use Rattle.vhdl_expand_rules.specs.Linear.{Linear, is_static}
use Rattle.vhdl_expand_rules.specs.Expressions.{signed_digits, number_in, kept_in, place_number, distance, slice_length}
use Rattle.vhdl_expand_rules.specs.Site.{Site}
use Rattle.vhdl_expand_rules.specs.laws.Sites.{HasIntegers, scope_at}
use Rattle.vhdl_expand_rules.proofs.Steps.{ok, bound, kept}
use Rattle.vhdl_expand_rules.proofs.Digits.{integral, size_few, size_width}
use Rattle.vhdl_expand_rules.proofs.FirstPassing.{first_passing, first_by, first_within}

-- ---- bounds

le-same : (x : ℤ) → int_le x x ≡ true
le-same x = grind (arith, ints)

le-trans : (x y z : ℤ) → int_le x y ≡ true → int_le y z ≡ true → int_le x z ≡ true
le-trans x y z h k = grind (arith, ints)

le-other : (x y : ℤ) → int_le x y ≡ false → int_le y x ≡ true
le-other x y h = grind (arith, ints)

minimum-le : (x y : ℤ) → int_le (minimum x y) x ≡ true
minimum-le x y = by (int_le x y) refl
  where
    by : (t : Bool) → int_le x y ≡ t → int_le (cond t x y) x ≡ true
    by true e = le-same x
    by false e = le-other x y e

maximum-ge : (x y : ℤ) → int_le x (maximum x y) ≡ true
maximum-ge x y = by (int_le x y) refl
  where
    by : (t : Bool) → int_le x y ≡ t → int_le x (cond t y x) ≡ true
    by true e = e
    by false e = le-same x

maximum-le : (x y z : ℤ) → int_le x z ≡ true → int_le y z ≡ true → int_le (maximum x y) z ≡ true
maximum-le x y z h k = by (int_le x y)
  where
    by : (t : Bool) → int_le (cond t y x) z ≡ true
    by true = k
    by false = h

held : (s : Span) (x : ℤ) → is_span s ≡ true → has s (held_in s x) ≡ true
held s x h =
    and_from (int_le s.least (held_in s x)) (int_le (held_in s x) s.greatest) (maximum-ge s.least (minimum s.greatest x))
    (maximum-le s.least (minimum s.greatest x) s.greatest h (minimum-le s.greatest x))

has-more : (s t : Span) (x : ℤ) → covers s t ≡ true → has t x ≡ true → has s x ≡ true
has-more s t x h k =
    let ends = and_parts (has s t.least) (has s t.greatest) h in
    let low = and_parts (int_le s.least t.least) (int_le t.least s.greatest) ends.0 in
    let high = and_parts (int_le s.least t.greatest) (int_le t.greatest s.greatest) ends.1 in
    let own = and_parts (int_le t.least x) (int_le x t.greatest) k in
    and_from (int_le s.least x) (int_le x s.greatest) (le-trans s.least t.least x low.0 own.0) (le-trans x t.greatest s.greatest own.1 high.1)

covers-more : (s t r : Span) → covers s t ≡ true → covers t r ≡ true → covers s r ≡ true
covers-more s t r h k =
    let ends = and_parts (has t r.least) (has t r.greatest) k in
    and_from (has s r.least) (has s r.greatest) (has-more s t r.least h ends.0) (has-more s t r.greatest h ends.1)

pub cut_covered : (s t r : Span) → is_span t ≡ true → covers s t ≡ true → covers s (cut_to t r) ≡ true
cut_covered s t r h k =
    covers-more s t (cut_to t r) k
    (and_from (has t (held_in t r.least)) (has t (held_in t r.greatest)) (held t r.least h) (held t r.greatest h))

-- a range that isn't null has bounds
in-order : (x y : ℤ) → not (int_lt y x) ≡ true → int_le x y ≡ true
in-order x y e = grind (arith, ints)

some-span : (r : IntegerRange) → HasIntegers r → is_span (range_span r) ≡ true
some-span r h = by r.direction h.some
  where
    by : (d : Direction) → not (is_null d r.left r.right) ≡ true → is_span (range_span (record r { direction = d })) ≡ true
    by To e = in-order r.left r.right e
    by Downto e = in-order r.right r.left e

-- ---- digits

hold-integer : (x : ℤ) → has integers x ≡ true → hold 32 x ≡ true
hold-integer (pos m) h =
    let both = and_parts (int_le (negsuc greatest_integer) (pos m)) (int_le (pos m) (pos greatest_integer)) h in
    let l : m ≤ 2147483647 = leb-true m 2147483647 both.1 in
    lt-ltb (m * 2) (2 ^ 32) (omega (arith, l))
hold-integer (negsuc m) h =
    let both = and_parts (int_le (negsuc greatest_integer) (negsuc m)) (int_le (negsuc m) (pos greatest_integer)) h in
    let l : m ≤ 2147483647 = leb-true m 2147483647 both.0 in
    lt-ltb (m * 2) (2 ^ 32) (omega (arith, l))

pub digits_are_width : (s : Span) → IsWidth (digits_needed s)
unfolding digits_needed first_passing
digits_are_width s = first_within (λ k. hold k s.least && hold k s.greatest) 64 1 (omega arith) (omega arith)

pub digits_are_few : (s : Span) → covers integers s ≡ true → digits_needed s ≤ 32
unfolding digits_needed first_passing
digits_are_few s h =
    let ends = and_parts (has integers s.least) (has integers s.greatest) h in
    first_by (λ k. hold k s.least && hold k s.greatest) 64 1 32 (omega arith) (omega arith)
    (and_from (hold 32 s.least) (hold 32 s.greatest) (hold-integer s.least ends.0) (hold-integer s.greatest ends.1))

-- ---- lengths

pub max-is_width : (k m : ℕ) → IsWidth k → IsWidth m → IsWidth (max k m)
max-is_width k m h g =
    let a : 1 ≤ k = h.0 in let b : k ≤ 64 = h.1 in let c : m ≤ 64 = g.1 in
    (omega (arith, a), omega (arith, b, c))

-- an expression of this length
pub record IsLong (here : Site) (len : ℕ) (e : bodies.Expr) : Type 0 where
  pub fits : FitsExpr (scope_at here) e
  pub long : width e ≡ len

pub extended_is_long : (here : Site) (len : ℕ) (e : bodies.Expr) → IsWidth len → FitsExpr (scope_at here) e → IsLong here len (extended len e)
extended_is_long here len e w h = by (width e == len) (λ t. eqb-true (width e) len t)
  where
    by : (t : Bool) → (t ≡ true → width e ≡ len) → IsLong here len (cond t e (bodies.counted ResizeSigned len e))
    by true same = record { fits = h; long = same refl }
    by false same = record { fits = (w, h); long = refl }

-- ---- numbers

pub record IsNumber (here : Site) (x : Number) : Type 0 where
  pub fits : FitsExpr (scope_at here) x.digits
  pub some : 1 ≤ width x.digits
  pub few : width x.digits ≤ 32

pub number_width : (here : Site) (x : Number) → IsNumber here x → IsWidth (width x.digits)
number_width here x h = let l : width x.digits ≤ 32 = h.few in (h.some, omega (arith, l))

module _ (here : Site) where
  abbrev FitsHere : bodies.Expr → Type 0
  FitsHere e = FitsExpr (scope_at here) e

  fitted-number : (s : Span) (e : bodies.Expr) → covers integers s ≡ true → FitsHere e → IsNumber here (fitted s e)
  fitted-number s e h k =
      let w = digits_are_width s in
      let long = extended_is_long here (digits_needed s) e w k in
      record {
        fits = long.fits;
        some = subst (λ m. 1 ≤ m) (sym long.long) w.0;
        few = subst (λ m. m ≤ 32) (sym long.long) (digits_are_few s h);
      }

  pub limited_number : (limits s : Span) (e : bodies.Expr) → is_span limits ≡ true → covers integers limits ≡ true → FitsHere e → IsNumber here (limited limits s e)
  unfolding limited
  limited_number limits s e h k f = by (covers limits s) refl
    where
      by : (t : Bool) → covers limits s ≡ t
          → IsNumber here (cond t (fitted s e) (fitted (cut_to limits s) (bodies.converted (Within limits.least limits.greatest) e)))
      by true g = fitted-number s e (covers-more integers limits s k g) f
      by false g = fitted-number (cut_to limits s) (bodies.converted (Within limits.least limits.greatest) e) (cut_covered integers limits s h k) f

  integer-number : (s : Span) (e : bodies.Expr) → FitsHere e → IsNumber here (limited integers s e)
  integer-number s e f = limited_number integers s e refl refl f

  -- those of an object
  signed-fits : (r : IntegerRange) (e : bodies.Expr) → width e ≡ number_size r → (1 ≤ number_size r) × (number_size r ≤ 32) → FitsHere e → FitsHere (signed_digits r e)
  signed-fits r e long few f = by (number_size r == digits_needed (range_span r))
    where
      by : (t : Bool) → FitsHere (cond t e (bodies.Expr.binary bodies.joined (bodies.constant (Zero ∷ [])) e))
      by true = f
      by false =
          let low : 1 ≤ number_size r = few.0 in
          let high : number_size r ≤ 32 = few.1 in
          ((omega (arith, long, low), omega (arith, long, high)), (omega arith, omega arith), f, tt)

  pub number_in_fits : (r : IntegerRange) (e : bodies.Expr) → HasIntegers r → FitsHere e → width e ≡ number_size r → IsNumber here (number_in r e)
  number_in_fits r e h f long = fitted-number (range_span r) (signed_digits r e) h.within (signed-fits r e long (size_few r (integral r h)) f)

  -- as an object keeps one
  long-to : (len : ℕ) (e : bodies.Expr) → IsWidth len → FitsHere e → IsLong here len (to_length len e)
  long-to len e w f = by (nat_le (width e) len)
    where
      by : (t : Bool) → IsLong here len (cond t (extended len e) (bodies.counted Resize len e))
      by true = extended_is_long here len e w f
      by false = record { fits = (w, f); long = refl }

  pub kept_long : (r : IntegerRange) (x : Number) → HasIntegers r → IsNumber here x → IsLong here (number_size r) (kept_in r x)
  kept_long r x h k =
      long-to (number_size r) (limited (range_span r) x.span x.digits).digits (size_width r (integral r h))
      (limited_number (range_span r) x.span x.digits (some-span r h) h.within k.fits).fits

  pub known_number : (x : ℤ) → IsNumber here (n.known x)
  unfolding n.known
  known_number x =
      integer-number (span x x) (bodies.constant (signed_digits_of (digits_needed (span x x)) x))
      (subst IsWidth (sym (length-signed_digits_of (digits_needed (span x x)) x)) (digits_are_width (span x x)))

  number-of : (e : bodies.Expr) → FitsHere e → IsWidth (width e) → nat_le (width e) 63 ≡ true → IsNumber here (n.number_of e)
  unfolding n.number_of
  number-of e f w h =
      let l : width e ≤ 63 = leb-true (width e) 63 h in
      let a : 1 ≤ width e = w.0 in
      integer-number (span (pos 0) (pos (2 ^ width e - 1))) (bodies.binary bodies.joined (bodies.constant (Zero ∷ [])) (bodies.converted Cleaned e))
      ((omega (arith, a), omega (arith, l)), (omega arith, omega arith), f, tt)

  pub number_is_read : (at : ℕ) (e : bodies.Expr) (x : Number) → FitsHere e → IsWidth (width e) → n.number_read at e ≡ Ok x → IsNumber here x
  number_is_read at e x f w h =
      let few = bound (unless TooWide at (nat_le (width e) 63)) _ x h in
      subst (IsNumber here) (ok (n.number_of e) x few.then_gave) (number-of e f w (kept TooWide at (nat_le (width e) 63) few.x few.gave))

  -- ---- operators

  module _ (x y : Number) (h : IsNumber here x) (k : IsNumber here y) where
    abbrev longest : Span → ℕ
    longest s = max (digits_needed s) (max (width x.digits) (width y.digits))

    longest-width : (s : Span) → IsWidth (longest s)
    longest-width s =
        max-is_width (digits_needed s) (max (width x.digits) (width y.digits)) (digits_are_width s)
        (max-is_width (width x.digits) (width y.digits) (number_width here x h) (number_width here y k))

    sum-width : (s : Span) → IsWidth (max (width (extended (longest s) x.digits)) (width (extended (longest s) y.digits)))
    sum-width s =
        let w = longest-width s in
        let a = extended_is_long here (longest s) x.digits w h.fits in
        let b = extended_is_long here (longest s) y.digits w k.fits in
        max-is_width (width (extended (longest s) x.digits)) (width (extended (longest s) y.digits))
        (subst IsWidth (sym a.long) w) (subst IsWidth (sym b.long) w)

    left-fits : (s : Span) → FitsHere (extended (longest s) x.digits)
    left-fits s = (extended_is_long here (longest s) x.digits (longest-width s) h.fits).fits

    right-fits : (s : Span) → FitsHere (extended (longest s) y.digits)
    right-fits s = (extended_is_long here (longest s) y.digits (longest-width s) k.fits).fits

    sum-number : IsNumber here (n.sum x y)
    unfolding n.sum
    sum-number =
        let s = n.sum_span x.span y.span in
        integer-number s (bodies.binary bodies.plus (extended (longest s) x.digits) (extended (longest s) y.digits))
        (sum-width s, left-fits s, right-fits s, tt)

    pub difference_number : IsNumber here (n.difference x y)
    unfolding n.difference
    difference_number =
        let s = n.difference_span x.span y.span in
        integer-number s (bodies.binary bodies.minus (extended (longest s) x.digits) (extended (longest s) y.digits))
        (sum-width s, left-fits s, right-fits s, tt)

    product-number : IsNumber here (n.product x y)
    unfolding n.product
    product-number =
        let a : 1 ≤ width x.digits = h.some in
        let b : width x.digits ≤ 32 = h.few in
        let c : width y.digits ≤ 32 = k.few in
        integer-number (n.product_span x.span y.span) (bodies.binary (bodies.signed signed.Multiply) x.digits y.digits)
        ((omega (arith, a), omega (arith, b, c)), h.fits, k.fits, tt)

    quotient-number : IsNumber here (n.quotient x y)
    unfolding n.quotient
    quotient-number =
        let s = n.quotient_span x.span y.span in
        let len : ℕ = max (digits_needed s) (width x.digits) in
        let w = max-is_width (digits_needed s) (width x.digits) (digits_are_width s) (number_width here x h) in
        let a = extended_is_long here len x.digits w h.fits in
        integer-number s (bodies.binary (bodies.signed signed.Divide) (extended len x.digits) y.digits)
        (subst IsWidth (sym a.long) w, a.fits, k.fits, tt)

    modulus-number : IsNumber here (n.modulus x y)
    unfolding n.modulus
    modulus-number =
        integer-number (n.modulus_span y.span) (bodies.binary (bodies.signed signed.Modulo) x.digits y.digits) (number_width here y k, h.fits, k.fits, tt)

    remainder-number : IsNumber here (n.remainder x y)
    unfolding n.remainder
    remainder-number =
        integer-number (n.remainder_span x.span y.span) (bodies.binary (bodies.signed signed.Remainder) x.digits y.digits)
        (number_width here y k, h.fits, k.fits, tt)

    divided : (at : ℕ) (by : Number → Number → Number) (z : Number) → IsNumber here (by x y) → n.divided_with at by x y ≡ Ok z → IsNumber here z
    divided at by z f e =
        let some = bound (unless StaticError at (not (n.is_zero y))) _ z e in
        subst (IsNumber here) (ok (by x y) z some.then_gave) f

    pub operation_number : (at : ℕ) (op : Arithmetic) (z : Number) → n.operation at op x y ≡ Ok z → IsNumber here z
    operation_number at Add z e = subst (IsNumber here) (ok (n.sum x y) z e) sum-number
    operation_number at Subtract z e = subst (IsNumber here) (ok (n.difference x y) z e) difference_number
    operation_number at Multiply z e = subst (IsNumber here) (ok (n.product x y) z e) product-number
    operation_number at Divide z e = divided at n.quotient z quotient-number e
    operation_number at Modulo z e = divided at n.modulus z modulus-number e
    operation_number at Remainder z e = divided at n.remainder z remainder-number e
    operation_number at Power z e = absurd cc

  pub negative_number : (x : Number) → IsNumber here x → IsNumber here (n.negative_of x)
  negative_number x h = difference_number (n.known (pos 0)) x (known_number (pos 0)) h

  pub magnitude_number : (x : Number) → IsNumber here x → IsNumber here (n.magnitude x)
  unfolding n.magnitude
  magnitude_number x h =
      let len : ℕ = max (digits_needed (span (pos 0) (n.reach x.span))) (width x.digits) in
      let w = max-is_width (digits_needed (span (pos 0) (n.reach x.span))) (width x.digits) (digits_are_width (span (pos 0) (n.reach x.span))) (number_width here x h) in
      integer-number (n.magnitude_span x.span) (bodies.converted Magnitude (extended len x.digits)) (extended_is_long here len x.digits w h.fits).fits

  -- ---- beside vectors

  pub natural_fits : (x : Number) → IsNumber here x → FitsHere (n.natural x)
  unfolding n.natural
  natural_fits x h = (limited_number naturals x.span x.digits refl refl h.fits).fits

  pub natural_digits_long : (len : ℕ) (x : Number) → IsWidth len → IsNumber here x → IsLong here len (n.natural_digits len x)
  unfolding n.natural_digits
  natural_digits_long len x w h = long-to len (n.natural x) w (natural_fits x h)

  -- ---- relations

  turned-fits : (len : ℕ) (e : bodies.Expr) → IsWidth len → FitsHere e → FitsHere (n.turned len e)
  unfolding n.turned n.top_digit
  turned-fits len e w h =
      let long = extended_is_long here len e w h in
      let a : 1 ≤ len = w.0 in
      let top : suc (length (replicate (len - 1) Zero)) ≡ len = let r = length-replicate (len - 1) Zero in omega (arith, r, a) in
      (subst IsWidth (sym long.long) w, long.fits, subst IsWidth (sym top) w, long.long ∙ sym top)

  pub relation_fits : (op : Cmp) (x y : Number) → IsNumber here x → IsNumber here y → FitsTest (scope_at here) (n.relation op x y)
  unfolding n.relation
  relation_fits op x y h k = by (n.may_be_negative x || n.may_be_negative y)
    where
      len : ℕ
      len = max (width x.digits) (width y.digits)

      by : (t : Bool) → FitsTest (scope_at here) (cond t (bodies.compared op (n.turned len x.digits) (n.turned len y.digits)) (bodies.compared op x.digits y.digits))
      by true =
          let w = max-is_width (width x.digits) (width y.digits) (number_width here x h) (number_width here y k) in
          (turned-fits len x.digits w h.fits, turned-fits len y.digits w k.fits)
      by false = (h.fits, k.fits)

  -- ---- places

  pub place_is_number : (b : Bounds) (x : Number) → IsNumber here x → IsNumber here (place_number b x)
  unfolding place_number
  place_is_number b x h = by b.direction
    where
      from-zero : (t : Bool) → IsNumber here (cond t x (n.difference x (n.known (pos b.left))))
      from-zero true = h
      from-zero false = difference_number x (n.known (pos b.left)) h (known_number (pos b.left))

      by : (d : Direction) → IsNumber here (place_number (record b { direction = d }) x)
      by To = from-zero (b.left == 0)
      by Downto = difference_number (n.known (pos b.left)) x (known_number (pos b.left)) h

-- a slice has an element, and no more than the vector
pub slice_is_short : (b : Bounds) (at : ℕ) (d : Direction) (l r : Linear) (len : ℕ) → slice_length b at d l r ≡ Ok len → (1 ≤ len) × (len ≤ bounds_size b)
unfolding slice_length
slice_is_short b at d l r len h =
    let same = bound (unless Index at (is_same_direction b.direction d)) _ len h in
    let far = bound (distance at d l r) _ len same.then_gave in
    let static = bound (unless StaticError at (is_static far.x)) _ len far.then_gave in
    let some = bound (unless Index at (int_le (pos 0) far.x.rest)) _ len static.then_gave in
    let few = bound (unless Index at (nat_le (nat_abs far.x.rest + 1) (bounds_size b))) _ len some.then_gave in
    let e : nat_abs far.x.rest + 1 ≡ len = ok (nat_abs far.x.rest + 1) len few.then_gave in
    let l : nat_abs far.x.rest + 1 ≤ bounds_size b = leb-true (nat_abs far.x.rest + 1) (bounds_size b) (kept Index at (nat_le (nat_abs far.x.rest + 1) (bounds_size b)) few.x few.gave) in
    (omega (arith, e), omega (arith, e, l))
