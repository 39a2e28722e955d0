-- What is computed stays what it is when more is declared.
use Rattle.std.proofs.Common.{◌≡◌, ℕ, suc, zero, List, [], ◌∷◌, ◌++◌, Option, Some, None, Ok, Err, refl, ap, ◌∙◌}
use Rattle.std.specs.Prelude.{ℤ, pos, slice_get}
use Rattle.vhdl_names_rules.specs.units.Expressions as u
use Rattle.vhdl_names_rules.specs.units.Expressions.{Static, StaticTest, Range, Part, Signal, Computed, Chosen, Vector, Elements, Value}
use Rattle.vhdl_names_rules.specs.units.Statements as s
use Rattle.vhdl_names_rules.specs.units.Units as units
use Rattle.vhdl_names_rules.specs.units.Units.{IntegerSubtype, Fixed, Form}
use Rattle.vhdl_values.specs.declared.kinds.Counted.{Counted}
use Rattle.vhdl_values.specs.declared.kinds.Counted.TheVariants.{Resize, ResizeSigned, Shift}
use Rattle.vhdl_expand_rules.specs.declared.fault.ElabProblem.{ElabProblem}
use Rattle.vhdl_expand_rules.specs.declared.fault.ElabProblem.TheVariants as problem
use Rattle.vhdl_expand_rules.specs.Elab.{Elab, ◌>>=◌, item_or}
use Rattle.vhdl_expand_rules.specs.Integers.{Integers, Numbers, checked_integer, known_range, integer, natural, base_numbers, numbers_within, numbers_of, of_range, integer_among, integer_of, decision}
use Rattle.vhdl_expand_rules.specs.Kinds.{Bounds, ObjectKind, one, vector, enumeration, boolean, size, declared_bounds, kind_of, size_of, count_of, places}
use Rattle.vhdl_expand_rules.specs.Kinds as kinds
use Rattle.vhdl_expand_rules.specs.Aggregates.{computed_range, given_indexes, choice_indexes, chosen_indexes}
use Rattle.vhdl_expand_rules.specs.Site as site
use Rattle.vhdl_expand_rules.specs.Site.{Site, part_elements, signal_elements, place_elements, variable_elements, constant_values, signal_kind, bounds_of, constant_bounds, integer_range, the_element}
use Rattle.vhdl_expand_rules.specs.Expressions as x
use Rattle.vhdl_expand_rules.specs.Statements.{value_given}
use Rattle.vhdl_expand_rules.specs.Declarations.{fixed_values, given_starts, starts}
use Rattle.vhdl_expand_rules.proofs.laws.Names.{was_found}
use Rattle.vhdl_expand_rules.proofs.laws.Chosen.{bounds_found, range_found}

-- what the first computes, the second computes
abbrev pub Stays : {A : Type 0} → Elab A → Elab A → Type 0
Stays {A} r q = (y : A) → r ≡ Ok y → q ≡ Ok y

pub stays_same : {A : Type 0} (r : Elab A) → Stays r r
stays_same r y h = h

pub stays_then : {A B : Type 0} (r q : Elab A) (f g : A → Elab B) → Stays r q → ((y : A) → Stays (f y) (g y)) → Stays (r >>= f) (q >>= g)
stays_then (Ok a) q f g first behind y h = ap (λ p. p >>= g) (first a refl) ∙ behind a y h
stays_then (Err told) q f g first behind y h = absurd cc

-- with the same behind it
pub stays_before : {A B : Type 0} (r q : Elab A) (f : A → Elab B) → Stays r q → Stays (r >>= f) (q >>= f)
stays_before r q f first = stays_then r q f f first (λ y. stays_same (f y))

-- ---- lists

-- what is found in the first is found in the second
abbrev pub Kept : {A : Type 0} → List A → List A → Type 0
Kept {A} xs ys = (k : ℕ) (z : A) → slice_get xs k ≡ Some z → slice_get ys k ≡ Some z

pub kept_same : {A : Type 0} (xs : List A) → Kept xs xs
kept_same xs k z h = h

pub kept_behind : {A : Type 0} (xs ys : List A) → Kept xs (xs ++ ys)
kept_behind [] ys k z h = absurd cc
kept_behind (y ∷ xs) ys zero z h = h
kept_behind (y ∷ xs) ys (suc k) z h = kept_behind xs ys k z h

pub found_stays : {A : Type 0} (problem : ElabProblem) (at k : ℕ) (xs ys : List A) → Kept xs ys → Stays (item_or problem at (slice_get xs k)) (item_or problem at (slice_get ys k))
found_stays problem at k xs ys kept z h = ap (item_or problem at) (kept k z (was_found problem at (slice_get xs k) z h))

-- ---- integers

pub record More (here more : Integers) : Type 0 where
  pub generics : Kept here.generics more.generics
  pub constants : Kept here.constants more.constants
  pub generates : Kept here.generates more.generates
  pub loops : Kept here.loops more.loops
  pub ranges : Kept here.ranges more.ranges

module _ (here more : Integers) (m : More here more) where
  integer-stays : (at : ℕ) (t : Static) → Stays (integer here at t) (integer more at t)
  unfolding integer
  integer-stays at (u.number n) = stays_same (checked_integer at (pos n))
  integer-stays at (u.generic k) = found_stays problem.StaticError at k here.generics more.generics m.generics
  integer-stays at (u.Static.constant k) = found_stays problem.StaticError at k here.constants more.constants m.constants
  integer-stays at (u.generate_parameter k) = found_stays problem.StaticError at k here.generates more.generates m.generates
  integer-stays at (u.loop_parameter k) = found_stays problem.StaticError at k here.loops more.loops m.loops
  integer-stays at (u.Static.negated sign t) = stays_before (integer here sign t) (integer more sign t) _ (integer-stays sign t)
  integer-stays at (u.absolute sign t) = stays_before (integer here sign t) (integer more sign t) _ (integer-stays sign t)
  integer-stays at (u.Static.binary sign op t r) =
      stays_then (integer here sign t) (integer more sign t) _ _ (integer-stays sign t) (λ y.
      stays_before (integer here sign r) (integer more sign r) _ (integer-stays sign r))
  integer-stays at (u.bound b k) = stays_before (known_range at here.ranges k) (known_range at more.ranges k) _ (found_stays problem.StaticError at k here.ranges more.ranges m.ranges)
  integer-stays at u.least_integer = stays_same _
  integer-stays at (u.slice_bound own b k t d r) =
      stays_then (known_range own here.ranges k) (known_range own more.ranges k) _ _ (found_stays problem.StaticError own k here.ranges more.ranges m.ranges) (λ w.
      stays_then (integer here own t) (integer more own t) _ _ (integer-stays own t) (λ y.
      stays_before (integer here own r) (integer more own r) _ (integer-stays own r)))

  natural-stays : (at : ℕ) (t : Static) → Stays (natural here at t) (natural more at t)
  unfolding natural
  natural-stays at t = stays_before (integer here at t) (integer more at t) _ (integer-stays at t)

  size-stays : (at : ℕ) (t : Static) → Stays (size_of here at t) (size_of more at t)
  unfolding size_of
  size-stays at t = stays_before (natural here at t) (natural more at t) _ (natural-stays at t)

  count-stays : (op : Counted) (at : ℕ) (t : Static) → Stays (count_of op here at t) (count_of op more at t)
  unfolding count_of
  count-stays Resize at t = size-stays at t
  count-stays ResizeSigned at t = size-stays at t
  count-stays (Shift by) at t = natural-stays at t

  bounds-stay : (at : ℕ) (r : Range) → Stays (declared_bounds here at r) (declared_bounds more at r)
  unfolding declared_bounds
  bounds-stay at r =
      stays_then (integer here at r.left) (integer more at r.left) _ _ (integer-stays at r.left) (λ y.
      stays_before (integer here at r.right) (integer more at r.right) _ (integer-stays at r.right))

  base-stays : (at : ℕ) (b : units.Integers) → Stays (base_numbers here at b) (base_numbers more at b)
  base-stays at (units.of_type w) = stays_same _
  base-stays at (units.of_range k) = stays_before (known_range at here.ranges k) (known_range at more.ranges k) _ (found_stays problem.StaticError at k here.ranges more.ranges m.ranges)

  within-stays : (base : Numbers) (r : Option (ℕ × Range)) → Stays (numbers_within here base r) (numbers_within more base r)
  within-stays base None = stays_same (Ok base)
  within-stays base (Some (at, r)) =
      stays_then (integer here at r.left) (integer more at r.left) _ _ (integer-stays at r.left) (λ y.
      stays_before (integer here at r.right) (integer more at r.right) _ (integer-stays at r.right))

  pub numbers_stay : (at : ℕ) (t : IntegerSubtype) → Stays (numbers_of here at t) (numbers_of more at t)
  unfolding numbers_of
  numbers_stay at t = stays_then (base_numbers here at t.base) (base_numbers more at t.base) _ _ (base-stays at t.base) (λ base. within-stays base t.range)

  pub kind_stays : (at : ℕ) (f : Form) → Stays (kind_of here at f) (kind_of more at f)
  unfolding kind_of
  kind_stays at units.element = stays_same (Ok one)
  kind_stays at (units.vector r) = stays_before (declared_bounds here at r) (declared_bounds more at r) _ (bounds-stay at r)
  kind_stays at (units.enumeration count) = stays_same (Ok (enumeration count))
  kind_stays at (units.Form.number t) = stays_before (numbers_of here at t) (numbers_of more at t) _ (numbers_stay at t)
  kind_stays at units.boolean = stays_same (Ok boolean)

  pub places_stay : (at : ℕ) (kind : ObjectKind) (part : Part) → Stays (places here at kind part) (places more at kind part)
  unfolding places
  places_stay at kind u.whole = stays_same _
  places_stay at (vector b) (u.Part.element t) = stays_before (integer here at t) (integer more at t) _ (integer-stays at t)
  places_stay at (vector b) (u.slice r) =
      stays_then (integer here at r.left) (integer more at r.left) _ _ (integer-stays at r.left) (λ y.
      stays_before (integer here at r.right) (integer more at r.right) _ (integer-stays at r.right))
  places_stay at _ (u.Part.element t) = stays_same _
  places_stay at _ (u.slice r) = stays_same _

  -- of the same things
  pub part_stays : (at from : ℕ) (kinds : List ObjectKind) (k : ℕ) (part : Part) → Stays (part_elements here at from kinds k part) (part_elements more at from kinds k part)
  part_stays at from kinds k part =
      stays_then (item_or problem.Index at (slice_get kinds k)) (item_or problem.Index at (slice_get kinds k)) _ _ (stays_same (item_or problem.Index at (slice_get kinds k))) (λ kind.
      stays_before (places here at kind part) (places more at kind part) _ (places_stay at kind part))

  -- ---- integer subtypes and truths

  among-stays : (at : ℕ) (numbers : Numbers) (t : Static) → Stays (integer_among here at numbers t) (integer_among more at numbers t)
  among-stays at numbers t = stays_before (integer here at t) (integer more at t) _ (integer-stays at t)

  pub integer_of_stays : (type : IntegerSubtype) (at : ℕ) (t : Static) → Stays (integer_of type here at t) (integer_of type more at t)
  unfolding integer_of
  integer_of_stays type at t =
      stays_then (numbers_of here at type) (numbers_of more at type) _ _ (numbers_stay at type) (λ numbers. among-stays at numbers t)

  pub decision_stays : (t : StaticTest) → Stays (decision here t) (decision more t)
  unfolding decision
  decision_stays (u.known at t) = stays_before (integer here at t) (integer more at t) _ (integer-stays at t)
  decision_stays (u.StaticTest.compared at op t r) =
      stays_then (integer here at t) (integer more at t) _ _ (integer-stays at t) (λ y.
      stays_before (integer here at r) (integer more at r) _ (integer-stays at r))
  decision_stays (u.StaticTest.negated t) = stays_before (decision here t) (decision more t) _ (decision_stays t)
  decision_stays (u.StaticTest.both op t r) =
      stays_then (decision here t) (decision more t) _ _ (decision_stays t) (λ y.
      stays_before (decision here r) (decision more r) _ (decision_stays r))

  -- ---- indexes

  range-stays : (at : ℕ) (r : Range) → Stays (computed_range here at r) (computed_range more at r)
  range-stays at r =
      stays_then (integer here at r.left) (integer more at r.left) _ _ (integer-stays at r.left) (λ y.
      stays_before (integer here at r.right) (integer more at r.right) _ (integer-stays at r.right))

  given-stay : (at : ℕ) (r : Option Range) → Stays (given_indexes here at r) (given_indexes more at r)
  given-stay at None = stays_same _
  given-stay at (Some r) = stays_before (computed_range here at r) (computed_range more at r) _ (range-stays at r)

  choice-stays : (all : Option (List ℤ)) (c : u.Index) → Stays (choice_indexes here all c) (choice_indexes more all c)
  choice-stays all (u.index at t) = stays_before (integer here at t) (integer more at t) _ (integer-stays at t)
  choice-stays all (u.indexes at r) = stays_before (computed_range here at r) (computed_range more at r) _ (range-stays at r)

  chosen-stay : (all : Option (List ℤ)) (taken : List ℤ) (cs : List u.Index) → Stays (chosen_indexes here all taken cs) (chosen_indexes more all taken cs)
  chosen-stay all taken [] = stays_same _
  chosen-stay all taken (c ∷ cs) =
      stays_then (choice_indexes here all c) (choice_indexes more all c) _ _ (choice-stays all c) (λ is.
      stays_then _ _ _ _ (stays_same _) (λ free.
      stays_before (chosen_indexes here all (taken ++ is) cs) (chosen_indexes more all (taken ++ is) cs) _ (chosen-stay all (taken ++ is) cs)))

-- ---- sites

pub record Grown (here more : Site) : Type 0 where
  pub integers : More here.integers more.integers
  pub constants : Kept here.constants more.constants
  pub signals : (at : ℕ) (n : Signal) (part : Part) → Stays (signal_elements here at n part) (signal_elements more at n part)
  pub variables : (at k : ℕ) (part : Part) → Stays (variable_elements here at k part) (variable_elements more at k part)
  pub signal_kinds : (n : Signal) (kind : ObjectKind) → signal_kind here n ≡ Some kind → signal_kind more n ≡ Some kind
  pub variable_kinds : Kept here.variables more.variables

-- of a thing that is found
module _ (at : ℕ) (p q : Option ObjectKind) (kept : (kind : ObjectKind) → p ≡ Some kind → q ≡ Some kind) where
  bounds-kept : Stays (bounds_of at p) (bounds_of at q)
  bounds-kept b h = ap (bounds_of at) (kept (vector b) (bounds_found at p b h))

  range-kept : Stays (integer_range at p) (integer_range at q)
  range-kept r h = ap (integer_range at) (kept (kinds.integer r) (range_found at p r h))

module _ (here more : Site) (g : Grown here more) where
  constant-bounds : (at k : ℕ) → Stays (constant_bounds here at k) (constant_bounds more at k)
  constant-bounds at k =
      stays_before (item_or problem.Index at (slice_get here.constants k)) (item_or problem.Index at (slice_get more.constants k)) _ (found_stays problem.Index at k here.constants more.constants g.constants)

  constant-stays : (at k : ℕ) (part : Part) → Stays (constant_values here at k part) (constant_values more at k part)
  unfolding constant_values
  constant-stays at k part =
      stays_then (item_or problem.Index at (slice_get here.constants k)) (item_or problem.Index at (slice_get more.constants k)) _ _ (found_stays problem.Index at k here.constants more.constants g.constants) (λ c.
      stays_before (places here.integers at c.kind part) (places more.integers at c.kind part) _ (places_stay here.integers more.integers g.integers at c.kind part))

  signal-bounds : (at : ℕ) (n : Signal) → Stays (site.signal_bounds here at n) (site.signal_bounds more at n)
  unfolding site.signal_bounds
  signal-bounds at n = bounds-kept at (signal_kind here n) (signal_kind more n) (g.signal_kinds n)

  variable-bounds : (at k : ℕ) → Stays (site.variable_bounds here at k) (site.variable_bounds more at k)
  variable-bounds at k = bounds-kept at (slice_get here.variables k) (slice_get more.variables k) (g.variable_kinds k)

  signal-number : (at : ℕ) (n : Signal) → Stays (x.signal_number here at n) (x.signal_number more at n)
  unfolding x.signal_number
  signal-number at n =
      stays_then (signal_elements here at n u.whole) (signal_elements more at n u.whole) _ _ (g.signals at n u.whole) (λ es.
      stays_before (integer_range at (signal_kind here n)) (integer_range at (signal_kind more n)) _ (range-kept at (signal_kind here n) (signal_kind more n) (g.signal_kinds n)))

  variable-number : (at k : ℕ) → Stays (x.variable_number here at k) (x.variable_number more at k)
  unfolding x.variable_number
  variable-number at k =
      stays_then (variable_elements here at k u.whole) (variable_elements more at k u.whole) _ _ (g.variables at k u.whole) (λ es.
      stays_before (integer_range at (slice_get here.variables k)) (integer_range at (slice_get more.variables k)) _ (range-kept at (slice_get here.variables k) (slice_get more.variables k) (g.variable_kinds k)))

  mutual
    unfolding x.vector

    computed-stays : (at : ℕ) (c : Computed) → Stays (x.computed here at c) (x.computed more at c)
    computed-stays at (u.static t) = stays_before (integer here.integers at t) (integer more.integers at t) _ (integer-stays here.integers more.integers g.integers at t)
    computed-stays at (u.number_of place v) = stays_before (x.vector here v) (x.vector more v) _ (vector-stays v)
    computed-stays at (u.signal_number n) = signal-number at n
    computed-stays at (u.variable_number k) = variable-number at k
    computed-stays at (u.Computed.negated place c) = stays_before (x.computed here place c) (x.computed more place c) _ (computed-stays place c)
    computed-stays at (u.magnitude place c) = stays_before (x.computed here place c) (x.computed more place c) _ (computed-stays place c)
    computed-stays at (u.calculated place op c d) =
        stays_then (x.computed here place c) (x.computed more place c) _ _ (computed-stays place c) (λ a.
        stays_before (x.computed here place d) (x.computed more place d) _ (computed-stays place d))

    measured-stays : (at : ℕ) (c : Computed) → Stays (x.measured here at c) (x.measured more at c)
    measured-stays at (u.static t) = stays_before (integer here.integers at t) (integer more.integers at t) _ (integer-stays here.integers more.integers g.integers at t)
    measured-stays at (u.number_of place v) = stays_before (x.vector here v) (x.vector more v) _ (vector-stays v)
    measured-stays at (u.signal_number n) = stays_before (x.signal_number here at n) (x.signal_number more at n) _ (signal-number at n)
    measured-stays at (u.variable_number k) = stays_before (x.variable_number here at k) (x.variable_number more at k) _ (variable-number at k)
    measured-stays at (u.Computed.negated place c) = stays_before (x.measured here place c) (x.measured more place c) _ (measured-stays place c)
    measured-stays at (u.magnitude place c) = stays_before (x.computed here place c) (x.computed more place c) _ (computed-stays place c)
    measured-stays at (u.calculated place op c d) =
        stays_then (x.measured here place c) (x.measured more place c) _ _ (measured-stays place c) (λ a.
        stays_before (x.measured here place d) (x.measured more place d) _ (measured-stays place d))

    row-stays : (at : ℕ) (b : Bounds) (c : Chosen) → Stays (x.chosen_row here at b c) (x.chosen_row more at b c)
    row-stays at b (u.element_at c) = stays_before (x.computed here at c) (x.computed more at c) _ (computed-stays at c)
    row-stays at b (u.slice_at c direction d) =
        stays_then (x.measured here at c) (x.measured more at c) _ _ (measured-stays at c) (λ l.
        stays_before (x.measured here at d) (x.measured more at d) _ (measured-stays at d))

    vector-stays : (v : Vector) → Stays (x.vector here v) (x.vector more v)
    vector-stays (u.of_signal p) = stays_before (place_elements here p) (place_elements more p) _ (g.signals p.at p.signal p.part)
    vector-stays (u.of_variable at k part) = stays_before (variable_elements here at k part) (variable_elements more at k part) _ (g.variables at k part)
    vector-stays (u.of_constant at k part) = stays_before (constant_values here at k part) (constant_values more at k part) _ (constant-stays at k part)
    vector-stays (u.in_signal at n c) =
        stays_then (signal_elements here at n u.whole) (signal_elements more at n u.whole) _ _ (g.signals at n u.whole) (λ es.
        stays_then (site.signal_bounds here at n) (site.signal_bounds more at n) _ _ (signal-bounds at n) (λ b.
        stays_before (x.chosen_row here at b c) (x.chosen_row more at b c) _ (row-stays at b c)))
    vector-stays (u.in_variable at k c) =
        stays_then (variable_elements here at k u.whole) (variable_elements more at k u.whole) _ _ (g.variables at k u.whole) (λ es.
        stays_then (site.variable_bounds here at k) (site.variable_bounds more at k) _ _ (variable-bounds at k) (λ b.
        stays_before (x.chosen_row here at b c) (x.chosen_row more at b c) _ (row-stays at b c)))
    vector-stays (u.in_constant at k c) =
        stays_then (constant_values here at k u.whole) (constant_values more at k u.whole) _ _ (constant-stays at k u.whole) (λ vs.
        stays_then (constant_bounds here at k) (constant_bounds more at k) _ _ (constant-bounds at k) (λ b.
        stays_before (x.chosen_row here at b c) (x.chosen_row more at b c) _ (row-stays at b c)))
    vector-stays (u.character c) = stays_same _
    vector-stays (u.enclosed_character c) = stays_same _
    vector-stays (u.Vector.literal at xs) = stays_same _
    vector-stays (u.Vector.inverse v) = stays_before (x.vector here v) (x.vector more v) _ (vector-stays v)
    vector-stays (u.Vector.binary at op v w) =
        stays_then (x.vector here v) (x.vector more v) _ _ (vector-stays v) (λ d.
        stays_before (x.vector here w) (x.vector more w) _ (vector-stays w))
    vector-stays (u.with_integer at op v t) =
        stays_then (x.vector here v) (x.vector more v) _ _ (vector-stays v) (λ e.
        stays_before (natural here.integers at t) (natural more.integers at t) _ (natural-stays here.integers more.integers g.integers at t))
    vector-stays (u.integer_with at op t v) =
        stays_then (natural here.integers at t) (natural more.integers at t) _ _ (natural-stays here.integers more.integers g.integers at t) (λ n.
        stays_before (x.vector here v) (x.vector more v) _ (vector-stays v))
    vector-stays (u.Vector.encoded at t r) =
        stays_then (natural here.integers at t) (natural more.integers at t) _ _ (natural-stays here.integers more.integers g.integers at t) (λ n.
        stays_before (size_of here.integers at r) (size_of more.integers at r) _ (size-stays here.integers more.integers g.integers at r))
    vector-stays (u.with_computed at op v c) =
        stays_then (x.vector here v) (x.vector more v) _ _ (vector-stays v) (λ e.
        stays_before (x.computed here at c) (x.computed more at c) _ (computed-stays at c))
    vector-stays (u.computed_with at op c v) =
        stays_then (x.computed here at c) (x.computed more at c) _ _ (computed-stays at c) (λ n.
        stays_before (x.vector here v) (x.vector more v) _ (vector-stays v))
    vector-stays (u.computed_encoded at c r) =
        stays_then (x.computed here at c) (x.computed more at c) _ _ (computed-stays at c) (λ n.
        stays_before (size_of here.integers at r) (size_of more.integers at r) _ (size-stays here.integers more.integers g.integers at r))
    vector-stays (u.shifted at by v c) =
        stays_then (x.vector here v) (x.vector more v) _ _ (vector-stays v) (λ e.
        stays_before (x.computed here at c) (x.computed more at c) _ (computed-stays at c))
    vector-stays (u.counted at op v t) =
        stays_then (x.vector here v) (x.vector more v) _ _ (vector-stays v) (λ e.
        stays_before (count_of op here.integers at t) (count_of op more.integers at t) _ (count-stays here.integers more.integers g.integers op at t))
    vector-stays (u.aggregate at r es) =
        stays_then (given_indexes here.integers at r) (given_indexes more.integers at r) _ _ (given-stay here.integers more.integers g.integers at r) (λ all.
        stays_before (x.elements here at all [] es) (x.elements more at all [] es) _ (elements-stay at all [] es))
    vector-stays (u.sized at r v) =
        stays_then (x.vector here v) (x.vector more v) _ _ (vector-stays v) (λ e.
        stays_before (declared_bounds here.integers at r) (declared_bounds more.integers at r) _ (bounds-stay here.integers more.integers g.integers at r))

    elements-stay : (at : ℕ) (all : Option (List ℤ)) (taken : List ℤ) (es : Elements) → Stays (x.elements here at all taken es) (x.elements more at all taken es)
    elements-stay at all taken u.no_elements = stays_same _
    elements-stay at all taken (u.next v es) =
        stays_then (x.vector here v) (x.vector more v) _ _ (vector-stays v) (λ e.
        stays_before (x.elements here at all taken es) (x.elements more at all taken es) _ (elements-stay at all taken es))
    elements-stay at all taken (u.chosen cs v es) =
        stays_then (chosen_indexes here.integers all taken cs) (chosen_indexes more.integers all taken cs) _ _ (chosen-stay here.integers more.integers g.integers all taken cs) (λ is.
        stays_then (x.vector here v) (x.vector more v) _ _ (vector-stays v) (λ e.
        stays_then _ _ _ _ (stays_same _) (λ same.
        stays_before (x.elements here at all (taken ++ is) es) (x.elements more at all (taken ++ is) es) _ (elements-stay at all (taken ++ is) es))))
    elements-stay at all taken (u.Elements.others v) = stays_before (x.vector here v) (x.vector more v) _ (vector-stays v)

  value-stays : (at : ℕ) (v : Value) → Stays (x.value here at v) (x.value more at v)
  unfolding x.value
  value-stays at (u.Value.elements v) = stays_before (x.vector here v) (x.vector more v) _ (vector-stays v)
  value-stays at (u.Value.position n) = stays_same _
  value-stays at (u.Value.computed c) = stays_before (x.computed here at c) (x.computed more at c) _ (computed-stays at c)
  value-stays at (u.static_truth t) = stays_before (decision here.integers t) (decision more.integers t) _ (decision_stays here.integers more.integers g.integers t)
  value-stays at (u.state_of n) =
      stays_before (the_element at (signal_elements here at n u.whole)) (the_element at (signal_elements more at n u.whole)) _
      (stays_before (signal_elements here at n u.whole) (signal_elements more at n u.whole) _ (g.signals at n u.whole))
  value-stays at (u.state_of_variable k) =
      stays_before (the_element at (variable_elements here at k u.whole)) (the_element at (variable_elements more at k u.whole)) _
      (stays_before (variable_elements here at k u.whole) (variable_elements more at k u.whole) _ (g.variables at k u.whole))

  given_stays : (at len : ℕ) (v : s.Given) → Stays (value_given here at len v) (value_given more at len v)
  unfolding value_given
  given_stays at len (s.single v) = stays_before (x.value here at v) (x.value more at v) _ (value-stays at v)
  given_stays at len (s.filled v) = stays_before (x.vector here v) (x.vector more v) _ (vector-stays v)

  -- ---- what constants and objects have

  pub fixed_stays : (at len : ℕ) (f : Fixed) → Stays (fixed_values here at len f) (fixed_values more at len f)
  unfolding fixed_values
  fixed_stays at len (units.Fixed.constant k) =
      stays_before (item_or problem.Index at (slice_get here.constants k)) (item_or problem.Index at (slice_get more.constants k)) _ (found_stays problem.Index at k here.constants more.constants g.constants)
  fixed_stays at len (units.Fixed.encoded t r) =
      stays_then (natural here.integers at t) (natural more.integers at t) _ _ (natural-stays here.integers more.integers g.integers at t) (λ n.
      stays_before (size_of here.integers at r) (size_of more.integers at r) _ (size-stays here.integers more.integers g.integers at r))
  fixed_stays at len (units.Fixed.given v) = stays_before (value_given here at len v) (value_given more at len v) _ (given_stays at len v)
  fixed_stays at len (units.Fixed.literal xs) = stays_same _
  fixed_stays at len (units.Fixed.filled c) = stays_same _
  fixed_stays at len (units.Fixed.integer t) = stays_same _
  fixed_stays at len (units.Fixed.truth t) = stays_same _
  fixed_stays at len (units.Fixed.position n) = stays_same _
  fixed_stays at len (units.Fixed.aggregate p es) = stays_same _

  given-starts : (at : ℕ) (kind : ObjectKind) (f : Fixed) → Stays (given_starts here at kind f) (given_starts more at kind f)
  given-starts at (enumeration n) (units.Fixed.position p) = stays_same _
  given-starts at (enumeration n) (units.Fixed.given v) = stays_before (value_given here at 1 v) (value_given more at 1 v) _ (given_stays at 1 v)
  given-starts at boolean (units.Fixed.truth t) =
      stays_before (decision here.integers t) (decision more.integers t) _ (decision_stays here.integers more.integers g.integers t)
  given-starts at (kinds.integer r) (units.Fixed.integer t) =
      stays_before (integer_among here.integers at (of_range r) t) (integer_among more.integers at (of_range r) t) _ (among-stays here.integers more.integers g.integers at (of_range r) t)
  given-starts at kind f = stays_before (fixed_values here at (size kind) f) (fixed_values more at (size kind) f) _ (fixed_stays at (size kind) f)

  pub starts_stay : (at : ℕ) (kind : ObjectKind) (default : Option Fixed) → Stays (starts here at kind default) (starts more at kind default)
  unfolding starts
  starts_stay at (kinds.integer r) None = stays_same _
  starts_stay at kind None = stays_same _
  starts_stay at kind (Some f) = given-starts at kind f
