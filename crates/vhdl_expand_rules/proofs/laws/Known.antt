-- What is known of integers lies within the integers, and so does what is computed of it (IEEE 1076-2008, 5.2.3.2).
use Rattle.std.proofs.Common.{◌≡◌, ℕ, zero, suc, ◌+◌, ◌≤◌, Bool, true, false, cond, not, ◌&&◌, ◌||◌, List, [], ◌∷◌, Option, Some, None, Ok, Err, All, refl, sym, ap, subst, arith}
use Rattle.std.specs.Prelude.{⊤, ℤ, pos, negsuc, ◌+ℤ◌, ◌-ℤ◌, neg_ℤ, int_le, int_lt, nat_abs, nat_le, slice_get}
use Rattle.std.proofs.lemmas.Int.{ints}
use Rattle.std.proofs.lemmas.Bool.{and_parts, and_from, leb-true, le-leb}
use Rattle.std.proofs.lemmas.List.Elements.{All-cons, All-nil}
use Rattle.vhdl_lexer.specs.Literals.{greatest_integer}
use Rattle.vhdl_tree.specs.declared.operator.Direction.{Direction}
use Rattle.vhdl_tree.specs.declared.operator.Direction.TheVariants.{To, Downto}
use Rattle.vhdl_names_rules.specs.declared.operator.Bound.{Bound}
use Rattle.vhdl_names_rules.specs.declared.operator.Bound.TheVariants.{Left, Right, High, Low, Length}
use Rattle.vhdl_names_rules.specs.declared.operator.IntegerType.TheVariants.{Integer, Natural, Positive}
use Rattle.vhdl_names_rules.specs.units.Expressions as u
use Rattle.vhdl_names_rules.specs.units.Expressions.{Static, Range}
use Rattle.vhdl_names_rules.specs.units.Units as units
use Rattle.vhdl_names_rules.specs.units.Units.{Form, IntegerSubtype}
use Rattle.vhdl_expand_rules.specs.declared.fault.ElabProblem.TheVariants.{StaticError, GenericRange, Index, TooMany, TooWide}
use Rattle.vhdl_expand_rules.specs.Elab.{Elab, unless, item_or}
use Rattle.vhdl_expand_rules.specs.Integers.{IntegerRange, Integers, Numbers, of_type, of_range, checked_integer, is_null, extent, bound_checked, is_slice, known_range, integer, as_natural, have, base_numbers, numbers_within, numbers_of, integer_among, integer_of, next, numbers_from, most_turns, turns}
use Rattle.vhdl_expand_rules.specs.Kinds.{Bounds, ObjectKind, ranges_of, range_of, not_null, declared_bounds, kind_of}
use Rattle.vhdl_expand_rules.specs.Kinds as kinds
use Rattle.vhdl_expand_rules.proofs.Steps.{given, ok, bound, kept}
use Rattle.vhdl_expand_rules.proofs.Items.{all_get}
use Rattle.vhdl_expand_rules.proofs.Chains.{each_operation}
use Rattle.vhdl_expand_rules.proofs.Digits.{IsInteger, AreIntegral, lower_has, upper_has}
use Rattle.vhdl_expand_rules.proofs.laws.Names.{was_found}

pub record AreIntegers (here : Integers) : Type 0 where
  pub generics : All IsInteger here.generics
  pub constants : All IsInteger here.constants
  pub generates : All IsInteger here.generates
  pub loops : All IsInteger here.loops
  pub ranges : All AreIntegral here.ranges

-- ---- static integers

abs-has : (x : ℤ) → nat_le (nat_abs x) greatest_integer ≡ true → IsInteger x
abs-has (pos n) h = and_from (int_le (negsuc 2147483647) (pos n)) (int_le (pos n) (pos 2147483647)) refl h
abs-has (negsuc n) h =
    let l : suc n ≤ 2147483647 = leb-true (suc n) 2147483647 h in
    and_from (int_le (negsuc 2147483647) (negsuc n)) (int_le (negsuc n) (pos 2147483647)) (le-leb n 2147483647 (omega (arith, l))) refl

-- what is given is an integer
abbrev Gives : Elab ℤ → Type 0
Gives r = (x : ℤ) → r ≡ Ok x → IsInteger x

checked-has : (at : ℕ) (y : ℤ) → Gives (checked_integer at y)
checked-has at y x h = by (nat_le (nat_abs y) greatest_integer) refl h
  where
    by : (t : Bool) → nat_le (nat_abs y) greatest_integer ≡ t → cond t (given y) (Err (StaticError, at)) ≡ Ok x → IsInteger x
    by true e k = subst IsInteger (ok y x k) (abs-has y e)
    by false e k = absurd cc

bound-has : (at : ℕ) (b : Bound) (r : IntegerRange) → AreIntegral r → Gives (bound_checked at b r)
bound-has at Left r h x e = subst IsInteger (ok _ x e) h.0
bound-has at Right r h x e = subst IsInteger (ok _ x e) h.1
bound-has at High r h x e = subst IsInteger (ok _ x e) (upper_has r h)
bound-has at Low r h x e = subst IsInteger (ok _ x e) (lower_has r h)
bound-has at Length r h x e = checked-has at (pos (extent r.direction r.left r.right)) x e

found-has : (at : ℕ) (xs : List ℤ) (k : ℕ) → All IsInteger xs → Gives (item_or StaticError at (slice_get xs k))
found-has at xs k h x e = all_get IsInteger xs k x h (was_found StaticError at (slice_get xs k) x e)

range-has : (at : ℕ) (rs : List IntegerRange) (k : ℕ) (r : IntegerRange) → All AreIntegral rs → known_range at rs k ≡ Ok r → AreIntegral r
range-has at rs k r h e = all_get AreIntegral rs k r h (was_found StaticError at (slice_get rs k) r e)

pub integer_has : (here : Integers) → AreIntegers here → (at : ℕ) (s : Static) → Gives (integer here at s)
unfolding integer
integer_has here h at (u.number n) x e = checked-has at (pos n) x e
integer_has here h at (u.generic k) x e = found-has at here.generics k h.generics x e
integer_has here h at (u.Static.constant k) x e = found-has at here.constants k h.constants x e
integer_has here h at (u.generate_parameter k) x e = found-has at here.generates k h.generates x e
integer_has here h at (u.loop_parameter k) x e = found-has at here.loops k h.loops x e
integer_has here h at (u.Static.negated sign s) x e =
    let y = bound (integer here sign s) _ x e in checked-has sign (neg_ℤ y.x) x y.then_gave
integer_has here h at (u.absolute sign s) x e =
    let y = bound (integer here sign s) _ x e in checked-has sign (pos (nat_abs y.x)) x y.then_gave
integer_has here h at (u.Static.binary sign op s t) x e =
    let y = bound (integer here sign s) _ x e in
    let z = bound (integer here sign t) _ x y.then_gave in
    each_operation Gives sign (checked-has sign) (λ w f. absurd cc) op y.x z.x x z.then_gave
integer_has here h at (u.bound b k) x e =
    let r = bound (known_range at here.ranges k) _ x e in bound-has at b r.x (range-has at here.ranges k r.x h.ranges r.gave) x r.then_gave
integer_has here h at u.least_integer x e = subst IsInteger (ok (negsuc greatest_integer) x e) refl
integer_has here h at (u.slice_bound place b k s d t) x e =
    let r = bound (known_range place here.ranges k) _ x e in
    let y = bound (integer here place s) _ x r.then_gave in
    let z = bound (integer here place t) _ x y.then_gave in
    let slice : IntegerRange = record { left = y.x; direction = d; right = z.x } in
    let within = bound (unless Index place (is_slice r.x slice)) _ x z.then_gave in
    bound-has place b slice (integer_has here h place s y.x y.gave, integer_has here h place t z.x z.gave) x within.then_gave

-- ---- integer subtypes

abbrev pub AreNumbers : Numbers → Type 0
AreNumbers (of_type w) = ⊤
AreNumbers (of_range r) = AreIntegral r

base-has : (here : Integers) → AreIntegers here → (at : ℕ) (b : units.Integers) (n : Numbers) → base_numbers here at b ≡ Ok n → AreNumbers n
base-has here h at (units.of_type w) n e = subst AreNumbers (ok (of_type w) n e) tt
base-has here h at (units.of_range k) n e =
    let r = bound (known_range at here.ranges k) _ n e in
    subst AreNumbers (ok (of_range r.x) n r.then_gave) (range-has at here.ranges k r.x h.ranges r.gave)

within-has : (here : Integers) → AreIntegers here → (base : Numbers) (o : Option (ℕ × Range)) (n : Numbers) → AreNumbers base → numbers_within here base o ≡ Ok n → AreNumbers n
within-has here h base None n k e = subst AreNumbers (ok base n e) k
within-has here h base (Some (at, r)) n k e =
    let x = bound (integer here at r.left) _ n e in
    let y = bound (integer here at r.right) _ n x.then_gave in
    let inside = bound (unless GenericRange at (is_null r.direction x.x y.x || (have base x.x && have base y.x))) _ n y.then_gave in
    subst AreNumbers (ok (of_range (record { left = x.x; direction = r.direction; right = y.x })) n inside.then_gave)
    (integer_has here h at r.left x.x x.gave, integer_has here h at r.right y.x y.gave)

pub numbers_has : (here : Integers) → AreIntegers here → (at : ℕ) (s : IntegerSubtype) (n : Numbers) → numbers_of here at s ≡ Ok n → AreNumbers n
unfolding numbers_of
numbers_has here h at s n e =
    let base = bound (base_numbers here at s.base) _ n e in
    within-has here h base.x s.range n (base-has here h at s.base base.x base.gave) base.then_gave

pub among_has : (here : Integers) → AreIntegers here → (at : ℕ) (numbers : Numbers) (s : Static) → Gives (integer_among here at numbers s)
among_has here h at numbers s x e =
    let y = bound (integer here at s) _ x e in
    let inside = bound (unless GenericRange at (have numbers y.x)) _ x y.then_gave in
    subst IsInteger (ok y.x x inside.then_gave) (integer_has here h at s y.x y.gave)

pub integer_of_has : (type : IntegerSubtype) (here : Integers) → AreIntegers here → (at : ℕ) (s : Static) → Gives (integer_of type here at s)
unfolding integer_of
integer_of_has type here h at s x e =
    let numbers = bound (numbers_of here at type) _ x e in
    among_has here h at numbers.x s x numbers.then_gave

pub whole_has : (n : Numbers) → AreNumbers n → AreIntegral (range_of n)
whole_has (of_type Integer) h = (refl, refl)
whole_has (of_type Natural) h = (refl, refl)
whole_has (of_type Positive) h = (refl, refl)
whole_has (of_range r) h = h

-- ---- turns

between-has : (x y z : ℤ) → IsInteger x → IsInteger z → int_le x y ≡ true → int_le y z ≡ true → IsInteger y
between-has x y z h k low high =
    let a = and_parts (int_le (negsuc 2147483647) x) (int_le x (pos 2147483647)) h in
    let b = and_parts (int_le (negsuc 2147483647) z) (int_le z (pos 2147483647)) k in
    and_from (int_le (negsuc 2147483647) y) (int_le y (pos 2147483647)) (along (negsuc 2147483647) x y a.0 low) (along y z (pos 2147483647) high b.1)
  where
    along : (x y z : ℤ) → int_le x y ≡ true → int_le y z ≡ true → int_le x z ≡ true
    along x y z h k = grind (arith, ints)

-- so many numbers up, and down
up : (x : ℤ) (n m : ℕ) → n ≤ suc m → IsInteger x → IsInteger (x +ℤ pos m) → All IsInteger (numbers_from To x n)
up x zero m l h k = All-nil IsInteger
up x (suc n) zero l h k = by n (omega (arith, l))
  where
    by : (n : ℕ) → n ≡ 0 → All IsInteger (x ∷ numbers_from To (next To x) n)
    by zero e = All-cons IsInteger x [] h (All-nil IsInteger)
    by (suc n) e = absurd (omega (arith, e))
up x (suc n) (suc m) l h k =
    let same : x +ℤ pos 1 +ℤ pos m ≡ x +ℤ pos (suc m) = omega (arith, ints) in
    let low : int_le x (x +ℤ pos 1) ≡ true = grind (arith, ints) in
    let high : int_le (x +ℤ pos 1) (x +ℤ pos (suc m)) ≡ true = grind (arith, ints) in
    let one = between-has x (x +ℤ pos 1) (x +ℤ pos (suc m)) h k low high in
    All-cons IsInteger x (numbers_from To (x +ℤ pos 1) n) h
    (up (x +ℤ pos 1) n m (omega (arith, l)) one (subst IsInteger (sym same) k))

down : (x : ℤ) (n m : ℕ) → n ≤ suc m → IsInteger x → IsInteger (x -ℤ pos m) → All IsInteger (numbers_from Downto x n)
down x zero m l h k = All-nil IsInteger
down x (suc n) zero l h k = by n (omega (arith, l))
  where
    by : (n : ℕ) → n ≡ 0 → All IsInteger (x ∷ numbers_from Downto (next Downto x) n)
    by zero e = All-cons IsInteger x [] h (All-nil IsInteger)
    by (suc n) e = absurd (omega (arith, e))
down x (suc n) (suc m) l h k =
    let same : x -ℤ pos 1 -ℤ pos m ≡ x -ℤ pos (suc m) = omega (arith, ints) in
    let low : int_le (x -ℤ pos (suc m)) (x -ℤ pos 1) ≡ true = grind (arith, ints) in
    let high : int_le (x -ℤ pos 1) x ≡ true = grind (arith, ints) in
    let one = between-has (x -ℤ pos (suc m)) (x -ℤ pos 1) x k h low high in
    All-cons IsInteger x (numbers_from Downto (x -ℤ pos 1) n) h
    (down (x -ℤ pos 1) n m (omega (arith, l)) one (subst IsInteger (sym same) k))

far-up : (x y : ℤ) → int_lt y x ≡ false → y ≡ x +ℤ pos (nat_abs (x -ℤ y))
far-up x y h = by (x -ℤ y) refl
  where
    by : (z : ℤ) → x -ℤ y ≡ z → y ≡ x +ℤ pos (nat_abs z)
    by (pos n) e = grind (arith, ints)
    by (negsuc n) e = grind (arith, ints)

far-down : (x y : ℤ) → int_lt x y ≡ false → y ≡ x -ℤ pos (nat_abs (x -ℤ y))
far-down x y h = by (x -ℤ y) refl
  where
    by : (z : ℤ) → x -ℤ y ≡ z → y ≡ x -ℤ pos (nat_abs z)
    by (pos n) e = grind (arith, ints)
    by (negsuc n) e = grind (arith, ints)

counted-has : (d : Direction) (x y : ℤ) → IsInteger x → IsInteger y → All IsInteger (numbers_from d x (extent d x y))
counted-has To x y h k = by (int_lt y x) refl
  where
    m : ℕ
    m = nat_abs (x -ℤ y)

    by : (t : Bool) → int_lt y x ≡ t → All IsInteger (numbers_from To x (cond t 0 (m + 1)))
    by true e = All-nil IsInteger
    by false e = up x (m + 1) m (omega arith) h (subst IsInteger (far-up x y e) k)
counted-has Downto x y h k = by (int_lt x y) refl
  where
    m : ℕ
    m = nat_abs (x -ℤ y)

    by : (t : Bool) → int_lt x y ≡ t → All IsInteger (numbers_from Downto x (cond t 0 (m + 1)))
    by true e = All-nil IsInteger
    by false e = down x (m + 1) m (omega arith) h (subst IsInteger (far-down x y e) k)

pub turns_have : (here : Integers) → AreIntegers here → (at : ℕ) (r : Range) (is : List ℤ) → turns here at r ≡ Ok is → All IsInteger is
unfolding turns
turns_have here h at r is e =
    let x = bound (integer here at r.left) _ is e in
    let y = bound (integer here at r.right) _ is x.then_gave in
    let few = bound (unless TooMany at (nat_le (extent r.direction x.x y.x) most_turns)) _ is y.then_gave in
    subst (All IsInteger) (ok (numbers_from r.direction x.x (extent r.direction x.x y.x)) is few.then_gave)
    (counted-has r.direction x.x y.x (integer_has here h at r.left x.x x.gave) (integer_has here h at r.right y.x y.gave))

-- ---- kinds

pub natural_is : (at : ℕ) (x : ℤ) (n : ℕ) → as_natural at x ≡ Ok n → x ≡ pos n
natural_is at (pos m) n h = ap pos (ok m n h)
natural_is at (negsuc m) n h = absurd cc

bounds-have : (here : Integers) → AreIntegers here → (at : ℕ) (r : Range) (b : Bounds) → declared_bounds here at r ≡ Ok b → All AreIntegral (ranges_of (kinds.vector b))
unfolding declared_bounds
bounds-have here h at r b e =
    let x = bound (integer here at r.left) _ b e in
    let y = bound (integer here at r.right) _ b x.then_gave in
    let some = bound (unless Index at (not (is_null r.direction x.x y.x))) _ b y.then_gave in
    let left = bound (as_natural at x.x) _ b some.then_gave in
    let right = bound (as_natural at y.x) _ b left.then_gave in
    let most = bound (unless TooWide at (nat_le (extent r.direction x.x y.x) 64)) _ b right.then_gave in
    subst (λ (c : Bounds). All AreIntegral (ranges_of (kinds.vector c))) (ok (record { left = left.x; direction = r.direction; right = right.x }) b most.then_gave)
    (All-cons AreIntegral (record { left = pos left.x; direction = r.direction; right = pos right.x }) [] (
      subst IsInteger (natural_is at x.x left.x left.gave) (integer_has here h at r.left x.x x.gave),
      subst IsInteger (natural_is at y.x right.x right.gave) (integer_has here h at r.right y.x y.gave),
    )
    (All-nil AreIntegral))

pub number_has : (here : Integers) → AreIntegers here → (at : ℕ) (s : IntegerSubtype) (k : ObjectKind) → kind_of here at (units.Form.number s) ≡ Ok k
    → (r : IntegerRange) × (k ≡ kinds.integer r) × AreIntegral r × (not (is_null r.direction r.left r.right) ≡ true)
unfolding kind_of
number_has here h at s k e =
    let n = bound (numbers_of here at s) _ k e in
    let r = bound (not_null at (range_of n.x)) _ k n.then_gave in
    let some = bound (unless GenericRange at (not (is_null (range_of n.x).direction (range_of n.x).left (range_of n.x).right))) _ r.x r.gave in
    let is = ok (range_of n.x) r.x some.then_gave in (
      r.x,
      sym (ok (kinds.integer r.x) k r.then_gave),
      subst AreIntegral is (whole_has n.x (numbers_has here h at s n.x n.gave)),
      subst (λ (q : IntegerRange). not (is_null q.direction q.left q.right) ≡ true) is
          (kept GenericRange at (not (is_null (range_of n.x).direction (range_of n.x).left (range_of n.x).right)) some.x some.gave),
    )

pub kind_has : (here : Integers) → AreIntegers here → (at : ℕ) (f : Form) (k : ObjectKind) → kind_of here at f ≡ Ok k → All AreIntegral (ranges_of k)
unfolding kind_of
kind_has here h at (units.vector r) k e =
    let b = bound (declared_bounds here at r) _ k e in
    subst (λ (j : ObjectKind). All AreIntegral (ranges_of j)) (ok (kinds.vector b.x) k b.then_gave) (bounds-have here h at r b.x b.gave)
kind_has here h at (units.Form.number s) k e =
    let w = number_has here h at s k e in
    subst (λ (j : ObjectKind). All AreIntegral (ranges_of j)) (sym w.1) (All-nil AreIntegral)
kind_has here h at units.element k e = subst (λ (j : ObjectKind). All AreIntegral (ranges_of j)) (ok kinds.one k e) (All-nil AreIntegral)
kind_has here h at (units.enumeration n) k e = subst (λ (j : ObjectKind). All AreIntegral (ranges_of j)) (ok (kinds.enumeration n) k e) (All-nil AreIntegral)
kind_has here h at units.boolean k e = subst (λ (j : ObjectKind). All AreIntegral (ranges_of j)) (ok kinds.boolean k e) (All-nil AreIntegral)
