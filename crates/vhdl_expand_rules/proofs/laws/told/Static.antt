-- What is refused of static integers, kinds and the elements of names is told at the byte that is given, or at one of theirs.
use Rattle.std.proofs.Common.{ℕ, Bool, true, false, cond, not, ◌&&◌, ◌||◌, List, [], ◌∷◌, ◌++◌, Option, Some, None, All}
use Rattle.std.specs.Prelude.{ℤ, pos, negsuc, nat_le, nat_abs, neg_ℤ, slice_get}
use Rattle.std.proofs.lemmas.List.Elements.{All-nil, All-head, All-tail}
use Rattle.vhdl_values.specs.declared.kinds.Counted.{Counted}
use Rattle.vhdl_values.specs.declared.kinds.Counted.TheVariants.{Resize, ResizeSigned, Shift}
use Rattle.vhdl_tree.specs.declared.operator.Direction.{Direction}
use Rattle.vhdl_lexer.specs.Literals.{greatest_integer}
use Rattle.vhdl_names_rules.specs.declared.operator.Arithmetic.{Arithmetic}
use Rattle.vhdl_names_rules.specs.declared.operator.Bound.{Bound}
use Rattle.vhdl_names_rules.specs.declared.operator.Bound.TheVariants.{Length}
use Rattle.vhdl_names_rules.specs.units.Expressions as u
use Rattle.vhdl_names_rules.specs.units.Expressions.{Static, Range, StaticTest, Signal, Part, SignalPart}
use Rattle.vhdl_names_rules.specs.units.Units as units
use Rattle.vhdl_names_rules.specs.units.Units.{Form, IntegerSubtype}
use Rattle.vhdl_names_rules.specs.units.Bytes.{if_any_bytes, static_bytes, range_bytes, static_test_bytes, subtype_bytes, part_bytes, place_bytes, form_bytes}
use Rattle.vhdl_expand_rules.specs.declared.fault.ElabProblem.TheVariants.{StaticError, GenericRange, TooMany, Index, TooWide}
use Rattle.vhdl_expand_rules.specs.Elab.{Told, Elab, unless, item_or}
use Rattle.vhdl_expand_rules.specs.Integers.{IntegerRange, Integers, Numbers, checked_integer, integer_operation, is_null, extent, bound_of, bound_checked, is_same_direction, is_slice, sliced_bound, known_range, integer, as_natural, natural, have, base_numbers, numbers_within, numbers_of, integer_among, integer_of, decision, most_turns, turns}
use Rattle.vhdl_expand_rules.specs.Kinds as kinds
use Rattle.vhdl_expand_rules.specs.Kinds.{Bounds, ObjectKind, one, vector, enumeration, boolean, declared_bounds, range_of, not_null, kind_of, as_size, size_of, count_of, is_within, place_of, slice_places, places}
use Rattle.vhdl_expand_rules.specs.Site.{Site, elements_count, part_elements, signal_elements, place_elements, variable_elements, constant_values, signal_kind, bounds_of, signal_bounds, variable_bounds, constant_bounds, integer_range, the_element}
use Rattle.vhdl_expand_rules.specs.Expressions.{signal_number, variable_number}
use Rattle.vhdl_expand_rules.proofs.Chains.{each_operation}
use Rattle.vhdl_expand_rules.proofs.Tells.{Tells, At, tells_none, tells_refused, tells_then, tells_unless, tells_within, tells_item}
use Rattle.vhdl_expand_rules.proofs.laws.Targets.{all_left, all_right}

module _ (P : Told → Type 0) where
  -- ---- integers

  pub tells_chosen : {A : Type 0} (test : Bool) (r s : Elab A) → Tells P r → Tells P s → Tells P (cond test r s)
  tells_chosen true r s h k = h
  tells_chosen false r s h k = k

  pub checked_tells : (at : ℕ) (x : ℤ) → At P at → Tells P (checked_integer at x)
  checked_tells at x h = tells_chosen (nat_le (nat_abs x) greatest_integer) _ _ (tells_none P x) (tells_refused P StaticError tt at h)

  operation-tells : (at : ℕ) (op : Arithmetic) (x y : ℤ) → At P at → Tells P (integer_operation at op x y)
  operation-tells at op x y h = each_operation (λ r. Tells P r) at (λ z. checked_tells at z h) (tells_refused P StaticError tt at h) op x y

  bound-tells : (at : ℕ) (b : Bound) (r : IntegerRange) → At P at → Tells P (bound_checked at b r)
  bound-tells at Length r h = checked_tells at (bound_of Length r) h
  bound-tells at b r h = tells_none P (bound_of b r)

  sliced-tells : (at : ℕ) (b : Bound) (whole slice : IntegerRange) → At P at → Tells P (sliced_bound at b whole slice)
  sliced-tells at b whole s h =
      tells_then P (unless Index at (is_slice whole s)) _ (tells_unless P Index tt at (is_slice whole s) h) (λ kept. bound-tells at b s h)

  pub integer_tells : (here : Integers) (at : ℕ) (s : Static) → At P at → All (At P) (static_bytes s) → Tells P (integer here at s)
  unfolding integer
  integer_tells here at (u.number n) h k = checked_tells at (pos n) h
  integer_tells here at (u.generic n) h k = tells_item P StaticError tt at (slice_get here.generics n) h
  integer_tells here at (u.Static.constant n) h k = tells_item P StaticError tt at (slice_get here.constants n) h
  integer_tells here at (u.generate_parameter n) h k = tells_item P StaticError tt at (slice_get here.generates n) h
  integer_tells here at (u.loop_parameter n) h k = tells_item P StaticError tt at (slice_get here.loops n) h
  integer_tells here at (u.Static.negated sign s) h k =
      let own : At P sign = All-head (At P) sign (static_bytes s) k in
      tells_then P (integer here sign s) _ (integer_tells here sign s own (All-tail (At P) sign (static_bytes s) k)) (λ x. checked_tells sign (neg_ℤ x) own)
  integer_tells here at (u.absolute sign s) h k =
      let own : At P sign = All-head (At P) sign (static_bytes s) k in
      tells_then P (integer here sign s) _ (integer_tells here sign s own (All-tail (At P) sign (static_bytes s) k)) (λ x. checked_tells sign (pos (nat_abs x)) own)
  integer_tells here at (u.bound b n) h k =
      tells_then P (known_range at here.ranges n) _ (tells_item P StaticError tt at (slice_get here.ranges n) h) (λ r. bound-tells at b r h)
  integer_tells here at u.least_integer h k = tells_none P _
  integer_tells here at (u.slice_bound place b n s direction t) h k =
      let own : At P place = All-head (At P) place (static_bytes s ++ static_bytes t) k in
      let rest : All (At P) (static_bytes s ++ static_bytes t) = All-tail (At P) place (static_bytes s ++ static_bytes t) k in
      tells_then P (known_range place here.ranges n) _ (tells_item P StaticError tt place (slice_get here.ranges n) own) (λ r.
      tells_then P (integer here place s) _ (integer_tells here place s own (all_left (At P) (static_bytes s) (static_bytes t) rest)) (λ x.
      tells_then P (integer here place t) _ (integer_tells here place t own (all_right (At P) (static_bytes s) (static_bytes t) rest)) (λ y.
      sliced-tells place b r (record { left = x; direction = direction; right = y }) own)))
  integer_tells here at (u.Static.binary sign op s t) h k =
      let own : At P sign = All-head (At P) sign (static_bytes s ++ static_bytes t) k in
      let rest : All (At P) (static_bytes s ++ static_bytes t) = All-tail (At P) sign (static_bytes s ++ static_bytes t) k in
      tells_then P (integer here sign s) _ (integer_tells here sign s own (all_left (At P) (static_bytes s) (static_bytes t) rest)) (λ x.
      tells_then P (integer here sign t) _ (integer_tells here sign t own (all_right (At P) (static_bytes s) (static_bytes t) rest)) (λ y.
      operation-tells sign op x y own))

  as_natural-tells : (at : ℕ) (x : ℤ) → At P at → Tells P (as_natural at x)
  as_natural-tells at (pos n) h = tells_none P n
  as_natural-tells at (negsuc n) h = tells_refused P StaticError tt at h

  pub natural_tells : (here : Integers) (at : ℕ) (s : Static) → At P at → All (At P) (static_bytes s) → Tells P (natural here at s)
  unfolding natural
  natural_tells here at s h k = tells_then P (integer here at s) _ (integer_tells here at s h k) (λ x. as_natural-tells at x h)

  -- ---- integer subtypes

  base-tells : (here : Integers) (at : ℕ) (b : units.Integers) → At P at → Tells P (base_numbers here at b)
  base-tells here at (units.of_type w) h = tells_none P _
  base-tells here at (units.of_range n) h =
      tells_then P (known_range at here.ranges n) _ (tells_item P StaticError tt at (slice_get here.ranges n) h) (λ r. tells_none P _)

  within-tells : (here : Integers) (base : Numbers) (range : Option (ℕ × Range)) → All (At P) (if_any_bytes (λ (r : ℕ × Range). r.0 ∷ range_bytes r.1) range)
      → Tells P (numbers_within here base range)
  within-tells here base None k = tells_none P base
  within-tells here base (Some (at, r)) k =
      let own : At P at = All-head (At P) at (range_bytes r) k in
      let rest : All (At P) (range_bytes r) = All-tail (At P) at (range_bytes r) k in
      tells_then P (integer here at r.left) _ (integer_tells here at r.left own (all_left (At P) (static_bytes r.left) (static_bytes r.right) rest)) (λ x.
      tells_then P (integer here at r.right) _ (integer_tells here at r.right own (all_right (At P) (static_bytes r.left) (static_bytes r.right) rest)) (λ y.
      tells_then P (unless GenericRange at (is_null r.direction x y || (have base x && have base y))) _
      (tells_unless P GenericRange tt at (is_null r.direction x y || (have base x && have base y)) own) (λ kept. tells_none P _)))

  pub numbers_tells : (here : Integers) (at : ℕ) (s : IntegerSubtype) → At P at → All (At P) (subtype_bytes s) → Tells P (numbers_of here at s)
  unfolding numbers_of
  numbers_tells here at s h k = tells_then P (base_numbers here at s.base) _ (base-tells here at s.base h) (λ base. within-tells here base s.range k)

  pub among_tells : (here : Integers) (at : ℕ) (numbers : Numbers) (s : Static) → At P at → All (At P) (static_bytes s) → Tells P (integer_among here at numbers s)
  among_tells here at numbers s h k =
      tells_then P (integer here at s) _ (integer_tells here at s h k) (λ x.
      tells_then P (unless GenericRange at (have numbers x)) _ (tells_unless P GenericRange tt at (have numbers x) h) (λ kept. tells_none P x))

  pub integer_of_tells : (type : IntegerSubtype) (here : Integers) (at : ℕ) (s : Static) → At P at → All (At P) (subtype_bytes type) → All (At P) (static_bytes s)
      → Tells P (integer_of type here at s)
  unfolding integer_of
  integer_of_tells type here at s h j k =
      tells_then P (numbers_of here at type) _ (numbers_tells here at type h j) (λ numbers. among_tells here at numbers s h k)

  pub decision_tells : (here : Integers) (t : StaticTest) → All (At P) (static_test_bytes t) → Tells P (decision here t)
  unfolding decision
  decision_tells here (u.known at s) k =
      tells_then P (integer here at s) _ (integer_tells here at s (All-head (At P) at (static_bytes s) k) (All-tail (At P) at (static_bytes s) k)) (λ x. tells_none P _)
  decision_tells here (u.StaticTest.compared at op s t) k =
      let own : At P at = All-head (At P) at (static_bytes s ++ static_bytes t) k in
      let rest : All (At P) (static_bytes s ++ static_bytes t) = All-tail (At P) at (static_bytes s ++ static_bytes t) k in
      tells_then P (integer here at s) _ (integer_tells here at s own (all_left (At P) (static_bytes s) (static_bytes t) rest)) (λ x.
      tells_then P (integer here at t) _ (integer_tells here at t own (all_right (At P) (static_bytes s) (static_bytes t) rest)) (λ y. tells_none P _))
  decision_tells here (u.StaticTest.negated t) k = tells_then P (decision here t) _ (decision_tells here t k) (λ b. tells_none P _)
  decision_tells here (u.StaticTest.both op s t) k =
      tells_then P (decision here s) _ (decision_tells here s (all_left (At P) (static_test_bytes s) (static_test_bytes t) k)) (λ b.
      tells_then P (decision here t) _ (decision_tells here t (all_right (At P) (static_test_bytes s) (static_test_bytes t) k)) (λ c. tells_none P _))

  pub turns_tells : (here : Integers) (at : ℕ) (r : Range) → P (TooMany, at) → At P at → All (At P) (range_bytes r) → Tells P (turns here at r)
  unfolding turns
  turns_tells here at r many h k =
      tells_then P (integer here at r.left) _ (integer_tells here at r.left h (all_left (At P) (static_bytes r.left) (static_bytes r.right) k)) (λ x.
      tells_then P (integer here at r.right) _ (integer_tells here at r.right h (all_right (At P) (static_bytes r.left) (static_bytes r.right) k)) (λ y.
      tells_then P (unless TooMany at (nat_le (extent r.direction x y) most_turns)) _ (tells_within P at (nat_le (extent r.direction x y) most_turns) many) (λ kept.
      tells_none P _)))

  -- ---- kinds

  pub bounds_tells : (here : Integers) (at : ℕ) (r : Range) → At P at → All (At P) (range_bytes r) → Tells P (declared_bounds here at r)
  unfolding declared_bounds
  bounds_tells here at r h k =
      tells_then P (integer here at r.left) _ (integer_tells here at r.left h (all_left (At P) (static_bytes r.left) (static_bytes r.right) k)) (λ x.
      tells_then P (integer here at r.right) _ (integer_tells here at r.right h (all_right (At P) (static_bytes r.left) (static_bytes r.right) k)) (λ y.
      tells_then P (unless Index at (not (is_null r.direction x y))) _ (tells_unless P Index tt at (not (is_null r.direction x y)) h) (λ some.
      tells_then P (as_natural at x) _ (as_natural-tells at x h) (λ left.
      tells_then P (as_natural at y) _ (as_natural-tells at y h) (λ right.
      tells_then P (unless TooWide at (nat_le (extent r.direction x y) 64)) _ (tells_unless P TooWide tt at (nat_le (extent r.direction x y) 64) h) (λ most.
      tells_none P _))))))

  pub kind_tells : (here : Integers) (at : ℕ) (f : Form) → At P at → All (At P) (form_bytes f) → Tells P (kind_of here at f)
  unfolding kind_of
  kind_tells here at units.element h k = tells_none P one
  kind_tells here at (units.vector r) h k = tells_then P (declared_bounds here at r) _ (bounds_tells here at r h k) (λ b. tells_none P (vector b))
  kind_tells here at (units.enumeration count) h k = tells_none P (enumeration count)
  kind_tells here at (units.Form.number s) h k =
      tells_then P (numbers_of here at s) _ (numbers_tells here at s h k) (λ n.
      tells_then P (not_null at (range_of n)) _ (some-tells at (range_of n) h) (λ r. tells_none P _))
    where
      some-tells : (at : ℕ) (r : IntegerRange) → At P at → Tells P (not_null at r)
      some-tells at r h =
          tells_then P (unless GenericRange at (not (is_null r.direction r.left r.right))) _
          (tells_unless P GenericRange tt at (not (is_null r.direction r.left r.right)) h) (λ some. tells_none P r)
  kind_tells here at units.boolean h k = tells_none P boolean

  pub size_tells : (at n : ℕ) → At P at → Tells P (as_size at n)
  size_tells at n h =
      tells_then P (unless Index at (nat_le 1 n)) _ (tells_unless P Index tt at (nat_le 1 n) h) (λ some.
      tells_then P (unless TooWide at (nat_le n 64)) _ (tells_unless P TooWide tt at (nat_le n 64) h) (λ most. tells_none P n))

  pub size_of_tells : (here : Integers) (at : ℕ) (s : Static) → At P at → All (At P) (static_bytes s) → Tells P (size_of here at s)
  unfolding size_of
  size_of_tells here at s h k = tells_then P (natural here at s) _ (natural_tells here at s h k) (λ n. size_tells at n h)

  pub count_tells : (op : Counted) (here : Integers) (at : ℕ) (s : Static) → At P at → All (At P) (static_bytes s) → Tells P (count_of op here at s)
  unfolding count_of
  count_tells Resize here at s h k = size_of_tells here at s h k
  count_tells ResizeSigned here at s h k = size_of_tells here at s h k
  count_tells (Shift by) here at s h k = natural_tells here at s h k

  -- ---- parts

  place-tells : (b : Bounds) (at : ℕ) (x : ℤ) → At P at → Tells P (place_of b at x)
  place-tells b at x h = tells_chosen (is_within b x) _ _ (tells_none P _) (tells_refused P Index tt at h)

  slice-tells : (b : Bounds) (at : ℕ) (d : Direction) (x y : ℤ) → At P at → Tells P (slice_places b at d x y)
  slice-tells b at d x y h =
      tells_then P (unless Index at (is_same_direction b.direction d)) _ (tells_unless P Index tt at (is_same_direction b.direction d) h) (λ same.
      tells_then P (unless Index at (not (is_null d x y))) _ (tells_unless P Index tt at (not (is_null d x y)) h) (λ some.
      tells_then P (place_of b at x) _ (place-tells b at x h) (λ first.
      tells_then P (place_of b at y) _ (place-tells b at y h) (λ last. tells_none P _))))

  places-tells : (here : Integers) (at : ℕ) (kind : ObjectKind) (part : Part) → At P at → All (At P) (part_bytes part) → Tells P (places here at kind part)
  unfolding places
  places-tells here at kind u.whole h k = tells_none P _
  places-tells here at (vector b) (u.Part.element s) h k =
      tells_then P (integer here at s) _ (integer_tells here at s h k) (λ i.
      tells_then P (place_of b at i) _ (place-tells b at i h) (λ p. tells_none P (p ∷ [])))
  places-tells here at (vector b) (u.slice r) h k =
      tells_then P (integer here at r.left) _ (integer_tells here at r.left h (all_left (At P) (static_bytes r.left) (static_bytes r.right) k)) (λ x.
      tells_then P (integer here at r.right) _ (integer_tells here at r.right h (all_right (At P) (static_bytes r.left) (static_bytes r.right) k)) (λ y.
      slice-tells b at r.direction x y h))
  places-tells here at _ _ h k = tells_refused P Index tt at h

  part-tells : (here : Integers) (at from : ℕ) (kinds : List ObjectKind) (n : ℕ) (part : Part) → At P at → All (At P) (part_bytes part) → Tells P (part_elements here at from kinds n part)
  part-tells here at from kinds n part h k =
      tells_then P (item_or Index at (slice_get kinds n)) _ (tells_item P Index tt at (slice_get kinds n) h) (λ kind.
      tells_then P (places here at kind part) _ (places-tells here at kind part h k) (λ ps. tells_none P _))

  pub signal_tells : (here : Site) (at : ℕ) (x : Signal) (part : Part) → At P at → All (At P) (part_bytes part) → Tells P (signal_elements here at x part)
  unfolding signal_elements
  signal_tells here at (u.port n) part h k = part-tells here.integers at 0 here.ports n part h k
  signal_tells here at (u.Signal.signal n) part h k = part-tells here.integers at (elements_count here.ports) here.signals n part h k

  pub place_tells : (here : Site) (p : SignalPart) → All (At P) (place_bytes p) → Tells P (place_elements here p)
  place_tells here p k = signal_tells here p.at p.signal p.part (All-head (At P) p.at (part_bytes p.part) k) (All-tail (At P) p.at (part_bytes p.part) k)

  pub variable_tells : (here : Site) (at n : ℕ) (part : Part) → At P at → All (At P) (part_bytes part) → Tells P (variable_elements here at n part)
  unfolding variable_elements
  variable_tells here at n part h k = part-tells here.integers at 0 here.variables n part h k

  pub constant_tells : (here : Site) (at n : ℕ) (part : Part) → At P at → All (At P) (part_bytes part) → Tells P (constant_values here at n part)
  unfolding constant_values
  constant_tells here at n part h k =
      tells_then P (item_or Index at (slice_get here.constants n)) _ (tells_item P Index tt at (slice_get here.constants n) h) (λ c.
      tells_then P (places here.integers at c.kind part) _ (places-tells here.integers at c.kind part h k) (λ ps. tells_none P _))

  bounds-of-tell : (at : ℕ) (o : Option ObjectKind) → At P at → Tells P (bounds_of at o)
  bounds-of-tell at (Some (vector b)) h = tells_none P b
  bounds-of-tell at _ h = tells_refused P Index tt at h

  pub signal_bounds_tell : (here : Site) (at : ℕ) (x : Signal) → At P at → Tells P (signal_bounds here at x)
  unfolding signal_bounds
  signal_bounds_tell here at (u.port n) h = bounds-of-tell at (slice_get here.ports n) h
  signal_bounds_tell here at (u.Signal.signal n) h = bounds-of-tell at (slice_get here.signals n) h

  pub variable_bounds_tell : (here : Site) (at n : ℕ) → At P at → Tells P (variable_bounds here at n)
  variable_bounds_tell here at n h = bounds-of-tell at (slice_get here.variables n) h

  pub constant_bounds_tell : (here : Site) (at n : ℕ) → At P at → Tells P (constant_bounds here at n)
  constant_bounds_tell here at n h =
      tells_then P (item_or Index at (slice_get here.constants n)) _ (tells_item P Index tt at (slice_get here.constants n) h) (λ c. bounds-of-tell at (Some c.kind) h)

  range-of-tells : (at : ℕ) (o : Option ObjectKind) → At P at → Tells P (integer_range at o)
  range-of-tells at (Some (kinds.integer r)) h = tells_none P r
  range-of-tells at _ h = tells_refused P Index tt at h

  pub signal_number_tells : (here : Site) (at : ℕ) (x : Signal) → At P at → Tells P (signal_number here at x)
  unfolding signal_number
  signal_number_tells here at x h =
      tells_then P (signal_elements here at x u.whole) _ (signal_tells here at x u.whole h (All-nil (At P))) (λ es.
      tells_then P (integer_range at (signal_kind here x)) _ (range-of-tells at (signal_kind here x) h) (λ r. tells_none P _))

  pub variable_number_tells : (here : Site) (at n : ℕ) → At P at → Tells P (variable_number here at n)
  unfolding variable_number
  variable_number_tells here at n h =
      tells_then P (variable_elements here at n u.whole) _ (variable_tells here at n u.whole h (All-nil (At P))) (λ es.
      tells_then P (integer_range at (slice_get here.variables n)) _ (range-of-tells at (slice_get here.variables n) h) (λ r. tells_none P _))

  pub element_tells : (at : ℕ) (r : Elab (List ℕ)) → At P at → Tells P r → Tells P (the_element at r)
  element_tells at r h k = tells_then P r _ k (λ es. tells_item P Index tt at (slice_get es 0) h)
