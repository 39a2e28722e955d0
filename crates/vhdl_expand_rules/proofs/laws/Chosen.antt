-- Names, and what a run chooses of them, fit.
use Rattle.std.proofs.Common.{◌≡◌, ℕ, ◌+◌, ◌≤◌, true, List, length, map, take, Option, Some, None, Ok, All, refl, sym, ap, ◌∙◌, subst, arith}
use Rattle.std.specs.Prelude.{slice_get, slice_index_or}
use Rattle.std.specs.List.{AllZip, range_with_len}
use Rattle.std.proofs.lemmas.Option.{same_Some}
use Rattle.std.proofs.lemmas.List.{length-map}
use Rattle.std.proofs.lemmas.List.FromFn.{length-range_with_len}
use Rattle.vhdl_tree.specs.declared.operator.Direction.{Direction}
use Rattle.vhdl_values.specs.declared.scalar.Nine.{Nine}
use Rattle.vhdl_values.specs.declared.scalar.Nine.TheVariants.{X}
use Rattle.rtl_model.specs.bodies.Types.{ElementType, HasType}
use Rattle.rtl_model.specs.bodies.Fits.{width, IsWidth, IsSpacing, FitsExpr, HoldsRows}
use Rattle.rtl_model.specs.bodies.Body as bodies
use Rattle.vhdl_names_rules.specs.units.Expressions as u
use Rattle.vhdl_names_rules.specs.units.Expressions.{Range, Signal, Part, Computed, Chosen}
use Rattle.vhdl_names_rules.specs.units.Units as units
use Rattle.vhdl_names_rules.specs.units.Units.{Form, IntegerSubtype}
use Rattle.vhdl_names_rules.specs.Rules.{◌>>=◌}
use Rattle.vhdl_names_rules.specs.sound.Expressions.{Inside, Shape, vector, number, is_elements, port_form, part_shape, signal_form, has_vector, chosen_shape, is_number}
use Rattle.vhdl_expand_rules.specs.declared.fault.ElabProblem.TheVariants.{Index}
use Rattle.vhdl_expand_rules.specs.Elab.{item_or}
use Rattle.vhdl_expand_rules.specs.Integers.{IntegerRange, Integers}
use Rattle.vhdl_expand_rules.specs.Kinds as kinds
use Rattle.vhdl_expand_rules.specs.Kinds.{ObjectKind, Bounds, size, bounds_size, number_size, places}
use Rattle.vhdl_expand_rules.specs.Computed.{Number}
use Rattle.vhdl_expand_rules.specs.Site.{Constant, Site, elements_count, part_elements, signal_elements, variable_elements, constant_values, bounds_of, signal_bounds, variable_bounds, constant_bounds, integer_range, signal_kind}
use Rattle.vhdl_expand_rules.specs.Expressions.{Row, row_from, number_in, signal_number, variable_number}
use Rattle.vhdl_expand_rules.specs.laws.Sites.{HasIntegers, IsOf, IsConstant, IsSite, scope_at}
use Rattle.vhdl_expand_rules.specs.laws.Expressions.{HasShape, IsName, IsVector}
use Rattle.vhdl_expand_rules.proofs.Steps.{ok, bound}
use Rattle.vhdl_expand_rules.proofs.laws.Computed.{IsNumber, number_in_fits, place_is_number}
use Rattle.vhdl_expand_rules.proofs.laws.Names.{is_width, was_found, part_places, zip_at, name_fits, variable_fits}
use Rattle.vhdl_expand_rules.proofs.laws.Operands.{elements_are_nine}

-- ---- names

pub named : (here : Site) (s : Shape) (es : List ℕ) → is_elements s ≡ true → IsName here s es → IsVector here s (bodies.signal es)
named here s es h n = record {
  of_elements = h;
  fits = (is_width s (length es) n.width, subst (λ (t : ElementType). Typed t) (elements_are_nine s h) n.typed);
  width = n.width;
}
  where
    Typed : ElementType → Type 0
    Typed t = All (HasType (scope_at here).nets t) es

pub constant-values : (i : Inside) (here : Site) (at n : ℕ) (part : Part) (f : Form) (s : Shape) (vs : List Nine) → IsSite i here → slice_get i.constants n ≡ Some f → part_shape i f part ≡ Some s
    → constant_values here at n part ≡ Ok vs → HasShape s (length vs)
unfolding constant_values
constant-values i here at n part f s vs h e g m =
    let c = bound (item_or Index at (slice_get here.constants n)) _ vs m in
    let ps = bound (places here.integers at c.x.kind part) _ vs c.then_gave in
    let is = zip_at IsConstant i.constants here.constants n f c.x h.constants e (was_found Index at (slice_get here.constants n) c.x c.gave) in
    let w = part_places i here.integers at f c.x.kind part s ps.x is g ps.gave in
    subst (λ (ws : List Nine). HasShape s (length ws)) (ok (map (λ p. slice_index_or c.x.values p X) ps.x) vs ps.then_gave)
    (subst (HasShape s) (sym (length-map ps.x (λ p. slice_index_or c.x.values p X))) w.width)

-- ---- what a run chooses of

pub a_vector : (o : Option Form) → has_vector o ≡ true → (r : Range) × (o ≡ Some (units.vector r))
a_vector (Some (units.vector r)) h = (r, refl)
a_vector (Some units.element) h = absurd cc
a_vector (Some (units.enumeration n)) h = absurd cc
a_vector (Some (units.Form.number s)) h = absurd cc
a_vector (Some units.boolean) h = absurd cc
a_vector None h = absurd cc

pub bounds_found : (at : ℕ) (o : Option ObjectKind) (b : Bounds) → bounds_of at o ≡ Ok b → o ≡ Some (kinds.vector b)
bounds_found at (Some (kinds.vector c)) b h = ap (λ (z : Bounds). Some (kinds.vector z)) (ok c b h)
bounds_found at (Some kinds.one) b h = absurd cc
bounds_found at (Some (kinds.enumeration n)) b h = absurd cc
bounds_found at (Some (kinds.integer r)) b h = absurd cc
bounds_found at (Some kinds.boolean) b h = absurd cc
bounds_found at None b h = absurd cc

pub range_found : (at : ℕ) (o : Option ObjectKind) (r : IntegerRange) → integer_range at o ≡ Ok r → o ≡ Some (kinds.integer r)
range_found at (Some (kinds.integer q)) r h = ap (λ (z : IntegerRange). Some (kinds.integer z)) (ok q r h)
range_found at (Some (kinds.vector b)) r h = absurd cc
range_found at (Some kinds.one) r h = absurd cc
range_found at (Some (kinds.enumeration n)) r h = absurd cc
range_found at (Some kinds.boolean) r h = absurd cc
range_found at None r h = absurd cc

-- the whole has as many elements as lie within the bounds
places-long : (here : Integers) (at : ℕ) (k : ObjectKind) (b : Bounds) (ps : List ℕ) → Some k ≡ Some (kinds.vector b) → places here at k u.whole ≡ Ok ps → length ps ≡ bounds_size b
unfolding places
places-long here at k b ps e h =
    ap length (sym (ok (range_with_len 0 (size k)) ps h)) ∙ length-range_with_len 0 (size k) ∙ ap size (same_Some k (kinds.vector b) e)

whole-long : (here : Integers) (at from : ℕ) (ks : List ObjectKind) (n : ℕ) (es : List ℕ) (b : Bounds) → bounds_of at (slice_get ks n) ≡ Ok b → part_elements here at from ks n u.whole ≡ Ok es → length es ≡ bounds_size b
whole-long here at from ks n es b h e =
    let k = bound (item_or Index at (slice_get ks n)) _ es e in
    let ps = bound (places here at k.x u.whole) _ es k.then_gave in
    let same = sym (was_found Index at (slice_get ks n) k.x k.gave) ∙ bounds_found at (slice_get ks n) b h in
    let f : ℕ → ℕ = λ p. from + elements_count (take n ks) + p in
    ap length (sym (ok (map f ps.x) es ps.then_gave)) ∙ length-map ps.x f ∙ places-long here at k.x b ps.x same ps.gave

pub signal_long : (here : Site) (at : ℕ) (x : Signal) (es : List ℕ) (b : Bounds) → signal_bounds here at x ≡ Ok b → signal_elements here at x u.whole ≡ Ok es → length es ≡ bounds_size b
unfolding signal_bounds signal_elements
signal_long here at (u.port n) es b h e = whole-long here.integers at 0 here.ports n es b h e
signal_long here at (u.Signal.signal n) es b h e = whole-long here.integers at (elements_count here.ports) here.signals n es b h e

pub variable_long : (here : Site) (at n : ℕ) (es : List ℕ) (b : Bounds) → variable_bounds here at n ≡ Ok b → variable_elements here at n u.whole ≡ Ok es → length es ≡ bounds_size b
unfolding variable_elements
variable_long here at n es b h e = whole-long here.integers at 0 here.variables n es b h e

constant-long : (here : Site) (at n : ℕ) (vs : List Nine) (b : Bounds) → constant_bounds here at n ≡ Ok b → constant_values here at n u.whole ≡ Ok vs → length vs ≡ bounds_size b
unfolding constant_values
constant-long here at n vs b h e =
    let c = bound (item_or Index at (slice_get here.constants n)) _ vs e in
    let d = bound (item_or Index at (slice_get here.constants n)) _ b h in
    let ps = bound (places here.integers at c.x.kind u.whole) _ vs c.then_gave in
    let same = ok c.x d.x (sym c.gave ∙ d.gave) in
    let is = ap (λ (k : Constant). Some k.kind) same ∙ bounds_found at (Some d.x.kind) b d.then_gave in
    let f : ℕ → Nine = λ p. slice_index_or c.x.values p X in
    ap length (sym (ok (map f ps.x) vs ps.then_gave)) ∙ length-map ps.x f ∙ places-long here.integers at c.x.kind b ps.x is ps.gave

-- a row of a vector with these bounds
pub record RowFits (here : Site) (b : Bounds) (c : Chosen) (r : Row) : Type 0 where
  pub index : FitsExpr (scope_at here) r.index
  pub spacing : IsSpacing r.spacing
  pub within : r.spacing.len ≤ bounds_size b
  pub shape : HasShape (chosen_shape c) r.spacing.len

is-chosen : (c : Chosen) → is_elements (chosen_shape c) ≡ true
is-chosen (u.element_at x) = refl
is-chosen (u.slice_at x d y) = refl

chosen-vector : (here : Site) (b : Bounds) (c : Chosen) (r : Row) (rows : bodies.Expr) → RowFits here b c r → HoldsRows (scope_at here) rows → width rows ≡ bounds_size b
    → IsVector here (chosen_shape c) (bodies.chosen r.index r.spacing rows)
chosen-vector here b c r rows h k e =
    let l : r.spacing.len ≤ bounds_size b = h.within in
    record { of_elements = is-chosen c; fits = (h.spacing, h.index, k, omega (arith, l, e)); width = h.shape }

pub element-row : (here : Site) (b : Bounds) (c : Computed) (i : Number) → IsWidth (bounds_size b) → IsNumber here i → RowFits here b (u.element_at c) (row_from b i 1)
element-row here b c i w h = record {
  index = (place_is_number here b i h).fits;
  spacing = ((omega arith, omega arith), omega arith);
  within = w.0;
  shape = refl;
}

pub slice-row : (here : Site) (b : Bounds) (c : Computed) (d : Direction) (e : Computed) (i : Number) (len : ℕ) → IsWidth (bounds_size b) → IsNumber here i → (1 ≤ len) × (len ≤ bounds_size b)
    → RowFits here b (u.slice_at c d e) (row_from b i len)
slice-row here b c d e i len w h k =
    let high : bounds_size b ≤ 64 = w.1 in
    let l : len ≤ bounds_size b = k.1 in
    let few : len ≤ 64 = omega (arith, high, l) in
    record { index = (place_is_number here b i h).fits; spacing = ((k.0, few), omega arith); within = l; shape = (k.0, few) }

pub signal-rows : (i : Inside) (here : Site) (at : ℕ) (x : Signal) (c : Chosen) (es : List ℕ) (b : Bounds) (r : Row) → IsSite i here → has_vector (signal_form i x) ≡ true → signal_elements here at x u.whole ≡ Ok es
    → signal_bounds here at x ≡ Ok b → (IsWidth (bounds_size b) → RowFits here b c r) → IsVector here (chosen_shape c) (bodies.chosen r.index r.spacing (bodies.signal es))
signal-rows i here at x c es b r h k e g row =
    let f = a_vector (signal_form i x) k in
    let w = name_fits i here at x u.whole vector es h (ap (λ (o : Option Form). o >>= λ z. part_shape i z u.whole) f.1) e in
    let long = signal_long here at x es b g e in
    chosen-vector here b c r (bodies.signal es) (row (subst IsWidth long w.width)) w.typed long

pub variable-rows : (i : Inside) (here : Site) (at n : ℕ) (c : Chosen) (es : List ℕ) (b : Bounds) (r : Row) → IsSite i here → has_vector (slice_get i.variables n) ≡ true → variable_elements here at n u.whole ≡ Ok es
    → variable_bounds here at n ≡ Ok b → (IsWidth (bounds_size b) → RowFits here b c r) → IsVector here (chosen_shape c) (bodies.chosen r.index r.spacing (bodies.variable es))
variable-rows i here at n c es b r h k e g row =
    let f = a_vector (slice_get i.variables n) k in
    let w = variable_fits i here at n u.whole (units.vector f.0) vector es h f.1 refl e in
    let long = variable_long here at n es b g e in
    chosen-vector here b c r (bodies.variable es) (row (subst IsWidth long w.width)) w.typed long

pub constant-rows : (i : Inside) (here : Site) (at n : ℕ) (c : Chosen) (vs : List Nine) (b : Bounds) (r : Row) → IsSite i here → has_vector (slice_get i.constants n) ≡ true → constant_values here at n u.whole ≡ Ok vs
    → constant_bounds here at n ≡ Ok b → (IsWidth (bounds_size b) → RowFits here b c r) → IsVector here (chosen_shape c) (bodies.chosen r.index r.spacing (bodies.constant vs))
constant-rows i here at n c vs b r h k e g row =
    let f = a_vector (slice_get i.constants n) k in
    let w = constant-values i here at n u.whole (units.vector f.0) vector vs h f.1 refl e in
    let long = constant-long here at n vs b g e in
    chosen-vector here b c r (bodies.constant vs) (row (subst IsWidth long w)) tt long

-- ---- objects of integer types

a-number : (o : Option Form) → is_number o ≡ true → (s : IntegerSubtype) × (o ≡ Some (units.Form.number s))
a-number (Some (units.Form.number s)) h = (s, refl)
a-number (Some units.element) h = absurd cc
a-number (Some (units.vector r)) h = absurd cc
a-number (Some (units.enumeration n)) h = absurd cc
a-number (Some units.boolean) h = absurd cc
a-number None h = absurd cc

number-there : (forms : List Form) (ks : List ObjectKind) (n : ℕ) (s : IntegerSubtype) (r : IntegerRange) → AllZip IsOf forms ks → slice_get forms n ≡ Some (units.Form.number s) → slice_get ks n ≡ Some (kinds.integer r) → HasIntegers r
number-there forms ks n s r h e g = zip_at IsOf forms ks n (units.Form.number s) (kinds.integer r) h e g

-- the whole has as many digits as the range needs
number-places : (here : Integers) (at : ℕ) (k : ObjectKind) (r : IntegerRange) (ps : List ℕ) → Some k ≡ Some (kinds.integer r) → places here at k u.whole ≡ Ok ps → length ps ≡ number_size r
unfolding places
number-places here at k r ps e h =
    ap length (sym (ok (range_with_len 0 (size k)) ps h)) ∙ length-range_with_len 0 (size k) ∙ ap size (same_Some k (kinds.integer r) e)

pub number_long : (here : Integers) (at from : ℕ) (ks : List ObjectKind) (n : ℕ) (es : List ℕ) (r : IntegerRange) → slice_get ks n ≡ Some (kinds.integer r) → part_elements here at from ks n u.whole ≡ Ok es → length es ≡ number_size r
number_long here at from ks n es r h e =
    let k = bound (item_or Index at (slice_get ks n)) _ es e in
    let ps = bound (places here at k.x u.whole) _ es k.then_gave in
    let same = sym (was_found Index at (slice_get ks n) k.x k.gave) ∙ h in
    let f : ℕ → ℕ = λ p. from + elements_count (take n ks) + p in
    ap length (sym (ok (map f ps.x) es ps.then_gave)) ∙ length-map ps.x f ∙ number-places here at k.x r ps.x same ps.gave

-- the digits of one, and its range
pub record NumberElements (r : IntegerRange) (es : List ℕ) : Type 0 where
  pub integers : HasIntegers r
  pub long : length es ≡ number_size r

pub signal_digits : (i : Inside) (here : Site) (at : ℕ) (x : Signal) (es : List ℕ) (r : IntegerRange) → IsSite i here → is_number (signal_form i x) ≡ true → signal_elements here at x u.whole ≡ Ok es
    → signal_kind here x ≡ Some (kinds.integer r) → NumberElements r es
unfolding signal_elements
signal_digits i here at (u.port n) es r h k e g =
    let f = a-number (signal_form i (u.port n)) k in
    record { integers = number-there (map port_form i.ports) here.ports n f.0 r h.ports f.1 g; long = number_long here.integers at 0 here.ports n es r g e }
signal_digits i here at (u.Signal.signal n) es r h k e g =
    let f = a-number (signal_form i (u.Signal.signal n)) k in
    record { integers = number-there i.signals here.signals n f.0 r h.signals f.1 g; long = number_long here.integers at (elements_count here.ports) here.signals n es r g e }

pub variable_digits : (i : Inside) (here : Site) (at n : ℕ) (es : List ℕ) (r : IntegerRange) → IsSite i here → is_number (slice_get i.variables n) ≡ true → variable_elements here at n u.whole ≡ Ok es
    → slice_get here.variables n ≡ Some (kinds.integer r) → NumberElements r es
unfolding variable_elements
variable_digits i here at n es r h k e g =
    let f = a-number (slice_get i.variables n) k in
    record { integers = number-there i.variables here.variables n f.0 r h.variables f.1 g; long = number_long here.integers at 0 here.variables n es r g e }

pub signal_is_number : (i : Inside) (here : Site) (at : ℕ) (x : Signal) (z : Number) → IsSite i here → is_number (signal_form i x) ≡ true → signal_number here at x ≡ Ok z → IsNumber here z
unfolding signal_number
signal_is_number i here at x z h k e =
    let es = bound (signal_elements here at x u.whole) _ z e in
    let r = bound (integer_range at (signal_kind here x)) _ z es.then_gave in
    let w = signal_digits i here at x es.x r.x h k es.gave (range_found at (signal_kind here x) r.x r.gave) in
    let f = a-number (signal_form i x) k in
    let n = name_fits i here at x u.whole number es.x h (ap (λ (o : Option Form). o >>= λ y. part_shape i y u.whole) f.1) es.gave in
    subst (IsNumber here) (ok (number_in r.x (bodies.signal es.x)) z r.then_gave) (number_in_fits here r.x (bodies.signal es.x) w.integers (is_width number (length es.x) n.width, n.typed) w.long)

pub variable_is_number : (i : Inside) (here : Site) (at n : ℕ) (z : Number) → IsSite i here → is_number (slice_get i.variables n) ≡ true → variable_number here at n ≡ Ok z → IsNumber here z
unfolding variable_number
variable_is_number i here at n z h k e =
    let es = bound (variable_elements here at n u.whole) _ z e in
    let r = bound (integer_range at (slice_get here.variables n)) _ z es.then_gave in
    let w = variable_digits i here at n es.x r.x h k es.gave (range_found at (slice_get here.variables n) r.x r.gave) in
    let f = a-number (slice_get i.variables n) k in
    let v = variable_fits i here at n u.whole (units.Form.number f.0) number es.x h f.1 refl es.gave in
    subst (IsNumber here) (ok (number_in r.x (bodies.variable es.x)) z r.then_gave) (number_in_fits here r.x (bodies.variable es.x) w.integers (is_width number (length es.x) v.width, v.typed) w.long)
