-- Kinds are of their forms, and what objects start with is of their types.
use Rattle.std.proofs.Common.{◌≡◌, ℕ, ◌+◌, ◌<◌, ◌≤◌, Bool, true, false, cond, not, List, [], ◌∷◌, map, replicate, Option, Some, None, Ok, All, refl, sym, subst, arith}
use Rattle.std.specs.Prelude.{ℤ, pos, ◌-ℤ◌, nat_abs, nat_le, nat_lt}
use Rattle.std.proofs.lemmas.Bool.{leb-true, ltb-true, and_parts, and_from}
use Rattle.std.proofs.lemmas.List.Elements.{All-cons, All-nil, All-replicate}
use Rattle.vhdl_tree.specs.declared.operator.Direction.{Direction}
use Rattle.vhdl_values.specs.declared.scalar.Nine.{Nine}
use Rattle.vhdl_values.specs.declared.scalar.Nine.TheVariants.{Zero}
use Rattle.vhdl_values.specs.Scalar.{code_of, value_of_truth}
use Rattle.vhdl_values.proofs.Codes.{code_of_below}
use Rattle.vhdl_numbers.specs.TwosComplement.{signed_digits_of}
use Rattle.rtl_model.specs.bodies.Types.{nine_valued, limit_of}
use Rattle.rtl_model.specs.bodies.Body as bodies
use Rattle.rtl_model.specs.bodies.Fits.{IsWidth, width, value_width}
use Rattle.vhdl_names_rules.specs.units.Expressions as expressions
use Rattle.vhdl_names_rules.specs.units.Expressions.{Range, Value}
use Rattle.vhdl_names_rules.specs.units.Statements.{Given, single, filled}
use Rattle.vhdl_names_rules.specs.units.Units as u
use Rattle.vhdl_names_rules.specs.units.Units.{Form, Fixed}
use Rattle.vhdl_names_rules.specs.sound.Expressions.{Inside, state, number, shape_of, value_fits}
use Rattle.vhdl_names_rules.specs.sound.Statements.{given_fits}
use Rattle.vhdl_names_rules.specs.sound.Units.{form_fits, without_objects, fixed_fits, default_fits, may_be_resolved, is_port_shape}
use Rattle.vhdl_expand_rules.specs.declared.fault.ElabProblem.TheVariants.{Index, TooWide}
use Rattle.vhdl_expand_rules.specs.Elab.{unless, same_length}
use Rattle.vhdl_expand_rules.specs.Integers as integers
use Rattle.vhdl_expand_rules.specs.Integers.{Integers, of_range, as_natural, is_null, extent, lower, upper, integer_among, decision}
use Rattle.vhdl_expand_rules.specs.Computed.{has}
use Rattle.vhdl_expand_rules.specs.Computed as numbers
use Rattle.vhdl_expand_rules.specs.Kinds.{Bounds, ObjectKind, one, vector, enumeration, integer, boolean, bounds_size, number_size, size, element_type, declared_bounds, kind_of}
use Rattle.vhdl_expand_rules.specs.Site.{Site, signal_elements, variable_elements, the_element}
use Rattle.vhdl_expand_rules.specs.Expressions as expanded
use Rattle.vhdl_expand_rules.specs.Statements.{value_given}
use Rattle.vhdl_expand_rules.specs.Declarations.{position_of_value, fixed_values, number_starts, given_starts, starts}
use Rattle.vhdl_expand_rules.specs.laws.Sites.{IsOf}
use Rattle.vhdl_expand_rules.specs.laws.Trees.{IsKind}
use Rattle.vhdl_expand_rules.proofs.Steps.{ok, bound, kept}
use Rattle.vhdl_expand_rules.proofs.Digits.{lower_has, upper_has, integral, size_width}
use Rattle.vhdl_expand_rules.proofs.laws.Known.{AreIntegers, natural_is, number_has}

-- ---- kinds

some_extent : (d : Direction) (x y : ℤ) → not (is_null d x y) ≡ true → 1 ≤ extent d x y
some_extent d x y h = by (is_null d x y) (nat_abs (x -ℤ y)) h
  where
    by : (t : Bool) (n : ℕ) → not t ≡ true → 1 ≤ cond t 0 (n + 1)
    by true n h = absurd cc
    by false n h = omega arith

pub bounds_width : (here : Integers) (at : ℕ) (r : Range) (b : Bounds) → declared_bounds here at r ≡ Ok b → IsWidth (bounds_size b)
unfolding declared_bounds
bounds_width here at r b h =
    let x = bound (integers.integer here at r.left) _ b h in
    let y = bound (integers.integer here at r.right) _ b x.then_gave in
    let some = bound (unless Index at (not (is_null r.direction x.x y.x))) _ b y.then_gave in
    let left = bound (as_natural at x.x) _ b some.then_gave in
    let right = bound (as_natural at y.x) _ b left.then_gave in
    let most = bound (unless TooWide at (nat_le (extent r.direction x.x y.x) 64)) _ b right.then_gave in
    let w : IsWidth (extent r.direction x.x y.x) = (
      some_extent r.direction x.x y.x (kept Index at (not (is_null r.direction x.x y.x)) some.x some.gave),
      leb-true (extent r.direction x.x y.x) 64 (kept TooWide at (nat_le (extent r.direction x.x y.x) 64) most.x most.gave),
    ) in
    subst (λ (c : Bounds). IsWidth (bounds_size c)) (ok (record { left = left.x; direction = r.direction; right = right.x }) b most.then_gave)
    (subst (λ (z : ℤ). IsWidth (extent r.direction (pos left.x) z)) (natural_is at y.x right.x right.gave)
    (subst (λ (z : ℤ). IsWidth (extent r.direction z y.x)) (natural_is at x.x left.x left.gave) w))

-- what is declared has from 1 to 64 elements
pub kind_width : (here : Integers) → AreIntegers here → (at : ℕ) (f : Form) (k : ObjectKind) → kind_of here at f ≡ Ok k → IsWidth (size k)
unfolding kind_of
kind_width here h at (u.Form.number s) k e =
    let w = number_has here h at s k e in
    subst (λ (j : ObjectKind). IsWidth (size j)) (sym w.1) (size_width w.0 w.2)
kind_width here h at u.boolean k e = subst (λ (j : ObjectKind). IsWidth (size j)) (ok boolean k e) (omega arith, omega arith)
kind_width here h at u.element k e = subst (λ (j : ObjectKind). IsWidth (size j)) (ok one k e) (omega arith, omega arith)
kind_width here h at (u.vector r) k e =
    let b = bound (declared_bounds here at r) _ k e in
    subst (λ (j : ObjectKind). IsWidth (size j)) (ok (vector b.x) k b.then_gave) (bounds_width here at r b.x b.gave)
kind_width here h at (u.enumeration count) k e = subst (λ (j : ObjectKind). IsWidth (size j)) (ok (enumeration count) k e) (omega arith, omega arith)

-- of a number it matters that what is known are integers
pub kind_is_of : (i : Inside) (here : Integers) (at : ℕ) (f : Form) (k : ObjectKind) → (shape_of f ≡ number → AreIntegers here) → form_fits i f ≡ true → kind_of here at f ≡ Ok k → IsOf f k
unfolding kind_of
kind_is_of i here at u.element k known h e = subst (IsOf u.element) (ok one k e) tt
kind_is_of i here at (u.vector r) k known h e =
    let b = bound (declared_bounds here at r) _ k e in
    subst (IsOf (u.vector r)) (ok (vector b.x) k b.then_gave) (bounds_width here at r b.x b.gave)
kind_is_of i here at (u.enumeration count) k known h e =
    let both = and_parts (nat_lt 0 count) (nat_le count 256) h in
    subst (IsOf (u.enumeration count)) (ok (enumeration count) k e) (refl, ltb-true 0 count both.0, leb-true count 256 both.1)
kind_is_of i here at (u.Form.number s) k known h e =
    let w = number_has here (known refl) at s k e in
    subst (IsOf (u.Form.number s)) (sym w.1) (record { some = w.3; within = and_from (has numbers.integers (lower w.0)) (has numbers.integers (upper w.0)) (lower_has w.0 w.2) (upper_has w.0 w.2) })
kind_is_of i here at u.boolean k known h e = subst (IsOf u.boolean) (ok boolean k e) tt

pub is_kind : (f : Form) (k : ObjectKind) → IsOf f k → IsKind k
is_kind u.element one h = tt
is_kind (u.vector r) (vector b) h = h
is_kind (u.enumeration m) (enumeration n) h = (h.1, h.2)
is_kind (u.Form.number s) (integer r) h = h
is_kind u.boolean boolean h = tt
is_kind _ _ h = elim h [ ]

pub width_of_kind : (k : ObjectKind) → IsKind k → IsWidth (size k)
width_of_kind one h = (omega arith, omega arith)
width_of_kind (vector b) h = h
width_of_kind (enumeration n) h = (omega arith, omega arith)
width_of_kind (integer r) h = size_width r (integral r h)
width_of_kind boolean h = (omega arith, omega arith)

-- what a port may be of is of the nine values, and so is what is resolved
pub port_kind : (f : Form) (k : ObjectKind) → IsOf f k → is_port_shape (shape_of f) ≡ true → element_type k ≡ nine_valued
port_kind (u.enumeration m) (enumeration n) h e = absurd cc
port_kind u.element (enumeration n) h e = elim h [ ]
port_kind (u.vector r) (enumeration n) h e = elim h [ ]
port_kind (u.Form.number s) (enumeration n) h e = elim h [ ]
port_kind u.boolean (enumeration n) h e = elim h [ ]
port_kind _ _ h e = refl

pub resolved_kind : (f : Form) (k : ObjectKind) (resolved : Bool) → IsOf f k → may_be_resolved f resolved ≡ true → resolved ≡ true → element_type k ≡ nine_valued
resolved_kind (u.enumeration m) (enumeration n) true h e g = absurd cc
resolved_kind (u.enumeration m) (enumeration n) false h e g = absurd cc
resolved_kind u.element (enumeration n) r h e g = elim h [ ]
resolved_kind (u.vector r') (enumeration n) r h e g = elim h [ ]
resolved_kind (u.Form.number s) (enumeration n) r h e g = elim h [ ]
resolved_kind u.boolean (enumeration n) r h e g = elim h [ ]
resolved_kind _ _ _ h e g = refl

-- ---- what they start with

abbrev Below : ObjectKind → List ℕ → Type 0
Below k vs = All (λ v. v < limit_of (element_type k)) vs

pub codes_below : (vs : List Nine) → All (λ n. n < 9) (map code_of vs)
codes_below [] = All-nil (λ n. n < 9)
codes_below (v ∷ vs) = All-cons (λ n. n < 9) (code_of v) (map code_of vs) (code_of_below v) (codes_below vs)

some-value : (k : ObjectKind) → IsKind k → 0 < limit_of (element_type k)
some-value (enumeration n) h = h.0
some-value _ h = omega arith

value-below : (i : Inside) (here : Site) (at m : ℕ) (x : Value) (v : bodies.Value) (vs : List ℕ) → value_fits i (state m) x ≡ true → expanded.value here at x ≡ Ok v → position_of_value at v ≡ Ok vs → All (λ n. n < m) vs
unfolding expanded.value
value-below i here at m (expressions.Value.position p) v vs fit h k =
    let is : position_of_value at (bodies.position p) ≡ Ok vs = subst (λ (y : bodies.Value). position_of_value at y ≡ Ok vs) (sym (ok (bodies.position p) v h)) k in
    subst (All (λ n. n < m)) (ok (p ∷ []) vs is) (All-cons (λ n. n < m) p [] (ltb-true p m fit) (All-nil (λ n. n < m)))
value-below i here at m (expressions.Value.elements x) v vs fit h k =
    let e = bound (expanded.vector here x) _ v h in
    absurd (let is = subst (λ (y : bodies.Value). position_of_value at y ≡ Ok vs) (sym (ok (bodies.elements e.x) v e.then_gave)) k in cc)
value-below i here at m (expressions.Value.computed x) v vs fit h k =
    let n = bound (expanded.computed here at x) _ v h in
    absurd (let is = subst (λ (y : bodies.Value). position_of_value at y ≡ Ok vs) (sym (ok (bodies.elements n.x.digits) v n.then_gave)) k in cc)
value-below i here at m (expressions.static_truth t) v vs fit h k =
    let b = bound (decision here.integers t) _ v h in
    absurd (let is = subst (λ (y : bodies.Value). position_of_value at y ≡ Ok vs) (sym (ok (bodies.elements (bodies.constant (value_of_truth b.x ∷ []))) v b.then_gave)) k in cc)
value-below i here at m (expressions.state_of s) v vs fit h k =
    let e = bound (the_element at (signal_elements here at s expressions.whole)) _ v h in
    absurd (let is = subst (λ (y : bodies.Value). position_of_value at y ≡ Ok vs) (sym (ok (bodies.position_of e.x) v e.then_gave)) k in cc)
value-below i here at m (expressions.state_of_variable n) v vs fit h k =
    let e = bound (the_element at (variable_elements here at n expressions.whole)) _ v h in
    absurd (let is = subst (λ (y : bodies.Value). position_of_value at y ≡ Ok vs) (sym (ok (bodies.position_in e.x) v e.then_gave)) k in cc)

position-below : (i : Inside) (here : Site) (at m : ℕ) (g : Given) (v : bodies.Value) (vs : List ℕ) → given_fits i (state m) g ≡ true → value_given here at 1 g ≡ Ok v → position_of_value at v ≡ Ok vs → All (λ n. n < m) vs
unfolding value_given
position-below i here at m (single x) v vs fit h k =
    let e = bound (expanded.value here at x) _ v h in
    let l = bound (same_length at (value_width e.x) 1) _ v e.then_gave in
    value-below i here at m x e.x vs fit e.gave (subst (λ (y : bodies.Value). position_of_value at y ≡ Ok vs) (sym (ok e.x v l.then_gave)) k)
position-below i here at m (filled x) v vs fit h k =
    let e = bound (expanded.vector here x) _ v h in
    let l = bound (same_length at (width e.x) 1) _ v e.then_gave in
    absurd (let is = subst (λ (y : bodies.Value). position_of_value at y ≡ Ok vs) (sym (ok (bodies.elements (bodies.filled 1 e.x)) v l.then_gave)) k in cc)

given-below : (i : Inside) (here : Site) (at : ℕ) (f : Form) (k : ObjectKind) (x : Fixed) (vs : List ℕ) → IsOf f k → fixed_fits i (shape_of f) x ≡ true → given_starts here at k x ≡ Ok vs → Below k vs
given-below i here at f one x vs h e g =
    let xs = bound (fixed_values here at 1 x) _ vs g in
    subst (Below one) (ok (map code_of xs.x) vs xs.then_gave) (codes_below xs.x)
given-below i here at f (vector b) x vs h e g =
    let xs = bound (fixed_values here at (size (vector b)) x) _ vs g in
    subst (Below (vector b)) (ok (map code_of xs.x) vs xs.then_gave) (codes_below xs.x)
given-below i here at f boolean (u.Fixed.truth t) vs h e g =
    let b = bound (decision here.integers t) _ vs g in
    subst (Below boolean) (ok (code_of (value_of_truth b.x) ∷ []) vs b.then_gave) (codes_below (value_of_truth b.x ∷ []))
given-below i here at f boolean x vs h e g =
    let xs = bound (fixed_values here at 1 x) _ vs g in
    subst (Below boolean) (ok (map code_of xs.x) vs xs.then_gave) (codes_below xs.x)
given-below i here at f (integer r) (u.Fixed.integer s) vs h e g =
    let n = bound (integer_among here.integers at (of_range r) s) _ vs g in
    subst (Below (integer r)) (ok (number_starts r n.x) vs n.then_gave) (codes_below (signed_digits_of (number_size r) n.x))
given-below i here at f (integer r) x vs h e g =
    let xs = bound (fixed_values here at (number_size r) x) _ vs g in
    subst (Below (integer r)) (ok (map code_of xs.x) vs xs.then_gave) (codes_below xs.x)
given-below i here at (u.enumeration m) (enumeration n) (u.Fixed.position p) vs h e g =
    let p-below : p < n = subst (λ k. p < k) h.0 (ltb-true p m e) in
    subst (Below (enumeration n)) (ok (p ∷ []) vs g) (All-cons (λ v. v < n) p [] p-below (All-nil (λ v. v < n)))
given-below i here at (u.enumeration m) (enumeration n) (u.Fixed.given y) vs h e g =
    let v = bound (value_given here at 1 y) _ vs g in
    subst (λ k. All (λ p. p < k) vs) h.0 (position-below (without_objects i) here at m y v.x vs e v.gave v.then_gave)
given-below i here at u.element (enumeration n) x vs h e g = elim h [ ]
given-below i here at (u.vector r) (enumeration n) x vs h e g = elim h [ ]
given-below i here at (u.Form.number s) (enumeration n) x vs h e g = elim h [ ]
given-below i here at u.boolean (enumeration n) x vs h e g = elim h [ ]
given-below i here at _ _ _ vs h e g = absurd cc

pub starts_below : (i : Inside) (here : Site) (at : ℕ) (f : Form) (k : ObjectKind) (d : Option Fixed) (vs : List ℕ) → IsOf f k → default_fits i (shape_of f) d ≡ true → starts here at k d ≡ Ok vs → Below k vs
unfolding starts
starts_below i here at f (integer r) None vs h e g =
    subst (Below (integer r)) (ok (number_starts r r.left) vs g) (codes_below (signed_digits_of (number_size r) r.left))
starts_below i here at f boolean None vs h e g = subst (Below boolean) (ok (code_of Zero ∷ []) vs g) (codes_below (Zero ∷ []))
starts_below i here at f k None vs h e g =
    subst (Below k) (ok (replicate (size k) 0) vs g) (All-replicate (λ v. v < limit_of (element_type k)) (size k) 0 (some-value k (is_kind f k h)))
starts_below i here at f k (Some x) vs h e g = given-below i here at f k x vs h e g
