-- Expanded vectors fit, by induction over expressions.
use Rattle.std.proofs.Common.{◌≡◌, ℕ, true, ◌&&◌, ◌==◌, List, [], ◌∷◌, ◌++◌, length, Option, Some, None, Ok, All, refl, sym, subst}
use Rattle.std.specs.Prelude.{ℤ, slice_get}
use Rattle.std.specs.List.{list_all}
use Rattle.std.proofs.lemmas.Option.{same_Some}
use Rattle.std.proofs.lemmas.Bool.{and_parts, eqb-true}
use Rattle.std.proofs.lemmas.List.Elements.{All-cons, All-nil}
use Rattle.vhdl_values.specs.Numbers.{digits_of}
use Rattle.vhdl_values.proofs.Digits.{length-digits_of}
use Rattle.vhdl_values.proofs.Lengths.{counted_within}
use Rattle.rtl_model.specs.bodies.Types.{ElementType, HasType}
use Rattle.rtl_model.specs.bodies.Fits.{width, IsWidth}
use Rattle.rtl_model.specs.bodies.Body as bodies
use Rattle.vhdl_names_rules.specs.units.Expressions as u
use Rattle.vhdl_names_rules.specs.units.Expressions.{Computed, Chosen, Vector, Elements}
use Rattle.vhdl_names_rules.specs.sound.Expressions as sound
use Rattle.vhdl_names_rules.specs.sound.Expressions.{Inside, Shape, one, vector, state, is_elements, is_vector, part_shape, place_shape, static_fits, range_fits, any_range_fits, index_fits, is_one, are_elements, signal_form, has_vector, chosen_shape, is_vector_shape, computed_fits, chosen_fits, vector_shape, elements_fit}
use Rattle.vhdl_expand_rules.specs.declared.fault.ElabProblem.TheVariants.{Length}
use Rattle.vhdl_expand_rules.specs.Elab.{same_length}
use Rattle.vhdl_expand_rules.specs.Integers.{integer, natural}
use Rattle.vhdl_expand_rules.specs.Kinds.{Bounds, as_size, size_of, count_of, declared_bounds, bounds_size}
use Rattle.vhdl_expand_rules.specs.Aggregates.{Placed, next, chosen, others, given_indexes, chosen_indexes}
use Rattle.vhdl_expand_rules.specs.Computed as number
use Rattle.vhdl_expand_rules.specs.Computed.{Number, known, natural_digits}
use Rattle.vhdl_expand_rules.specs.Linear.{Measured, opposite, linear_operation, known_measured, as_term}
use Rattle.vhdl_expand_rules.specs.Site.{Site, place_elements, signal_elements, variable_elements, constant_values, signal_bounds, variable_bounds, constant_bounds}
use Rattle.vhdl_expand_rules.specs.Expressions as x
use Rattle.vhdl_expand_rules.specs.Expressions.{Row, row_from, slice_length}
use Rattle.vhdl_expand_rules.specs.laws.Sites.{IsSite, kinds_types}
use Rattle.vhdl_expand_rules.specs.laws.Expressions.{IsVector, EachVectorFits}
use Rattle.vhdl_expand_rules.proofs.Steps.{ok, bound, kept}
use Rattle.vhdl_expand_rules.proofs.Options.{step, given_some}
use Rattle.vhdl_expand_rules.proofs.laws.Computed.{IsNumber, known_number, number_is_read, operation_number, negative_number, magnitude_number, natural_digits_long, slice_is_short}
use Rattle.vhdl_expand_rules.proofs.laws.Aggregates.{given_few, One, PlacedFits, composed_whole}
use Rattle.vhdl_expand_rules.proofs.laws.Names.{is_width, each-name-fits, variable_fits}
use Rattle.vhdl_expand_rules.proofs.laws.Operands.{elements_are_nine, vector_width, one_character, constant_vector, asked, size_is_width, count_is_count, arithmetic, operated-fits, beside, computed-beside, vector-shape, static-shape}
use Rattle.vhdl_expand_rules.proofs.laws.Chosen.{named, constant-values, RowFits, element-row, slice-row, signal-rows, variable-rows, constant-rows, signal_is_number, variable_is_number}

-- ---- all vectors

-- what is said to be one element, or elements, has this shape
one-shape : (o : Option Shape) → is_one o ≡ true → o ≡ Some one
one-shape (Some one) h = refl
one-shape (Some vector) h = absurd cc
one-shape (Some (state n)) h = absurd cc
one-shape (Some sound.number) h = absurd cc
one-shape None h = absurd cc

record OfElements (o : Option Shape) : Type 0 where
  shape : Shape
  is : o ≡ Some shape

some-shape : (o : Option Shape) → are_elements o ≡ true → OfElements o
some-shape (Some s) h = record { shape = s; is = refl }
some-shape None h = absurd cc

one-fits : (here : Site) (at : ℕ) (e : bodies.Expr) (t : Unit {0}) → IsVector here one e → same_length at (width e) 1 ≡ Ok t → One here e
one-fits here at e t w l = record { fits = w.fits; width = eqb-true (width e) 1 (kept (Length (width e) 1) at (width e == 1) t l) }

mutual
  unfolding x.vector

  pub computed_is_number : (i : Inside) (here : Site) (at : ℕ) (c : Computed) (z : Number) → IsSite i here → computed_fits i c ≡ true → x.computed here at c ≡ Ok z → IsNumber here z
  computed_is_number i here at (u.static s) z h k m =
      let n = bound (integer here.integers at s) _ z m in
      subst (IsNumber here) (ok (known n.x) z n.then_gave) (known_number here n.x)
  computed_is_number i here at (u.number_of place v) z h k m =
      let e = bound (x.vector here v) _ z m in
      let w = each-vector-fits i here v vector e.x h (vector-shape (vector_shape i v) k) e.gave in
      number_is_read here place e.x z w.fits w.width e.then_gave
  computed_is_number i here at (u.signal_number y) z h k m = signal_is_number i here at y z h k m
  computed_is_number i here at (u.variable_number n) z h k m = variable_is_number i here at n z h k m
  computed_is_number i here at (u.Computed.negated place c) z h k m =
      let a = bound (x.computed here place c) _ z m in
      subst (IsNumber here) (ok (number.negative_of a.x) z a.then_gave) (negative_number here a.x (computed_is_number i here place c a.x h k a.gave))
  computed_is_number i here at (u.magnitude place c) z h k m =
      let a = bound (x.computed here place c) _ z m in
      subst (IsNumber here) (ok (number.magnitude a.x) z a.then_gave) (magnitude_number here a.x (computed_is_number i here place c a.x h k a.gave))
  computed_is_number i here at (u.calculated place op c d) z h k m =
      let both = and_parts (computed_fits i c) (computed_fits i d) k in
      let a = bound (x.computed here place c) _ z m in
      let b = bound (x.computed here place d) _ z a.then_gave in
      operation_number here a.x b.x (computed_is_number i here place c a.x h both.0 a.gave) (computed_is_number i here place d b.x h both.1 b.gave) place op z b.then_gave

  measured-number : (i : Inside) (here : Site) (at : ℕ) (c : Computed) (z : Measured) → IsSite i here → computed_fits i c ≡ true → x.measured here at c ≡ Ok z → IsNumber here z.number
  measured-number i here at (u.static s) z h k m =
      let n = bound (integer here.integers at s) _ z m in
      subst (λ (y : Measured). IsNumber here y.number) (ok (known_measured n.x) z n.then_gave) (known_number here n.x)
  measured-number i here at (u.number_of place v) z h k m =
      let e = bound (x.vector here v) _ z m in
      let n = bound (number.number_read place e.x) _ z e.then_gave in
      let w = each-vector-fits i here v vector e.x h (vector-shape (vector_shape i v) k) e.gave in
      subst (λ (y : Measured). IsNumber here y.number) (ok (as_term n.x) z n.then_gave) (number_is_read here place e.x n.x w.fits w.width n.gave)
  measured-number i here at (u.signal_number y) z h k m =
      let n = bound (x.signal_number here at y) _ z m in
      subst (λ (y : Measured). IsNumber here y.number) (ok (as_term n.x) z n.then_gave) (signal_is_number i here at y n.x h k n.gave)
  measured-number i here at (u.variable_number v) z h k m =
      let n = bound (x.variable_number here at v) _ z m in
      subst (λ (y : Measured). IsNumber here y.number) (ok (as_term n.x) z n.then_gave) (variable_is_number i here at v n.x h k n.gave)
  measured-number i here at (u.Computed.negated place c) z h k m =
      let a = bound (x.measured here place c) _ z m in
      let l = bound (opposite place a.x.linear) _ z a.then_gave in
      subst (λ (y : Measured). IsNumber here y.number) (ok _ z l.then_gave) (negative_number here a.x.number (measured-number i here place c a.x h k a.gave))
  measured-number i here at (u.magnitude place c) z h k m =
      let a = bound (x.computed here place c) _ z m in
      subst (λ (y : Measured). IsNumber here y.number) (ok (as_term (number.magnitude a.x)) z a.then_gave)
      (magnitude_number here a.x (computed_is_number i here place c a.x h k a.gave))
  measured-number i here at (u.calculated place op c d) z h k m =
      let both = and_parts (computed_fits i c) (computed_fits i d) k in
      let a = bound (x.measured here place c) _ z m in
      let b = bound (x.measured here place d) _ z a.then_gave in
      let n = bound (number.operation place op a.x.number b.x.number) _ z b.then_gave in
      let l = bound (linear_operation place op a.x.linear b.x.linear n.x.digits) _ z n.then_gave in
      subst (λ (y : Measured). IsNumber here y.number) (ok _ z l.then_gave)
      (operation_number here a.x.number b.x.number (measured-number i here place c a.x h both.0 a.gave) (measured-number i here place d b.x h both.1 b.gave) place op n.x n.gave)

  pub row_fits : (i : Inside) (here : Site) (at : ℕ) (b : Bounds) (c : Chosen) (r : Row) → IsSite i here → chosen_fits i c ≡ true → x.chosen_row here at b c ≡ Ok r → IsWidth (bounds_size b) → RowFits here b c r
  row_fits i here at b (u.element_at c) r h k m w =
      let z = bound (x.computed here at c) _ r m in
      subst (RowFits here b (u.element_at c)) (ok (row_from b z.x 1) r z.then_gave) (element-row here b c z.x w (computed_is_number i here at c z.x h k z.gave))
  row_fits i here at b (u.slice_at c d e) r h k m w =
      let both = and_parts (computed_fits i c) (computed_fits i e) k in
      let y = bound (x.measured here at c) _ r m in
      let z = bound (x.measured here at e) _ r y.then_gave in
      let len = bound (slice_length b at d y.x.linear z.x.linear) _ r z.then_gave in
      subst (RowFits here b (u.slice_at c d e)) (ok (row_from b y.x.number len.x) r len.then_gave)
      (slice-row here b c d e y.x.number len.x w (measured-number i here at c y.x h both.0 y.gave) (slice_is_short b at d y.x.linear z.x.linear len.x len.gave))

  pub each-vector-fits : EachVectorFits
  each-vector-fits i here (u.of_signal p) s e h k m =
      let z = step (place_shape i p) _ s k in
      let w = given_some (is_elements z.x) z.x s z.then_gave in
      let es = bound (place_elements here p) _ e m in
      subst (λ (y : Shape). IsVector here y e) w.1
      (subst (IsVector here z.x) (ok (bodies.signal es.x) e es.then_gave) (named here z.x es.x w.0 (each-name-fits i here p z.x es.x h z.gave es.gave)))
  each-vector-fits i here (u.of_variable at n part) s e h k m =
      let f = step (slice_get i.variables n) _ s k in
      let z = step (part_shape i f.x part) _ s f.then_gave in
      let w = given_some (is_elements z.x) z.x s z.then_gave in
      let es = bound (variable_elements here at n part) _ e m in
      let q = variable_fits i here at n part f.x z.x es.x h f.gave z.gave es.gave in
      subst (λ (y : Shape). IsVector here y e) w.1
      (subst (IsVector here z.x) (ok (bodies.variable es.x) e es.then_gave) (record {
        of_elements = w.0;
        fits = (is_width z.x (length es.x) q.width, subst (λ (t : ElementType). All (HasType (kinds_types here.variables) t) es.x) (elements_are_nine z.x w.0) q.typed);
        width = q.width;
      }))
  each-vector-fits i here (u.of_constant at n part) s e h k m =
      let f = step (slice_get i.constants n) _ s k in
      let z = step (part_shape i f.x part) _ s f.then_gave in
      let w = given_some (is_elements z.x) z.x s z.then_gave in
      let vs = bound (constant_values here at n part) _ e m in
      let q = constant-values i here at n part f.x z.x vs.x h f.gave z.gave vs.gave in
      subst (λ (y : Shape). IsVector here y e) w.1
      (subst (IsVector here z.x) (ok (bodies.constant vs.x) e vs.then_gave) (record { of_elements = w.0; fits = is_width z.x (length vs.x) q; width = q }))
  each-vector-fits i here (u.in_signal at y c) s e h k m =
      let w = given_some (has_vector (signal_form i y) && chosen_fits i c) (chosen_shape c) s k in
      let both = and_parts (has_vector (signal_form i y)) (chosen_fits i c) w.0 in
      let es = bound (signal_elements here at y u.whole) _ e m in
      let b = bound (signal_bounds here at y) _ e es.then_gave in
      let r = bound (x.chosen_row here at b.x c) _ e b.then_gave in
      subst (λ (z : Shape). IsVector here z e) w.1
      (subst (IsVector here (chosen_shape c)) (ok (bodies.chosen r.x.index r.x.spacing (bodies.signal es.x)) e r.then_gave)
      (signal-rows i here at y c es.x b.x r.x h both.0 es.gave b.gave (row_fits i here at b.x c r.x h both.1 r.gave)))
  each-vector-fits i here (u.in_variable at n c) s e h k m =
      let w = given_some (has_vector (slice_get i.variables n) && chosen_fits i c) (chosen_shape c) s k in
      let both = and_parts (has_vector (slice_get i.variables n)) (chosen_fits i c) w.0 in
      let es = bound (variable_elements here at n u.whole) _ e m in
      let b = bound (variable_bounds here at n) _ e es.then_gave in
      let r = bound (x.chosen_row here at b.x c) _ e b.then_gave in
      subst (λ (z : Shape). IsVector here z e) w.1
      (subst (IsVector here (chosen_shape c)) (ok (bodies.chosen r.x.index r.x.spacing (bodies.variable es.x)) e r.then_gave)
      (variable-rows i here at n c es.x b.x r.x h both.0 es.gave b.gave (row_fits i here at b.x c r.x h both.1 r.gave)))
  each-vector-fits i here (u.in_constant at n c) s e h k m =
      let w = given_some (has_vector (slice_get i.constants n) && chosen_fits i c) (chosen_shape c) s k in
      let both = and_parts (has_vector (slice_get i.constants n)) (chosen_fits i c) w.0 in
      let vs = bound (constant_values here at n u.whole) _ e m in
      let b = bound (constant_bounds here at n) _ e vs.then_gave in
      let r = bound (x.chosen_row here at b.x c) _ e b.then_gave in
      subst (λ (z : Shape). IsVector here z e) w.1
      (subst (IsVector here (chosen_shape c)) (ok (bodies.chosen r.x.index r.x.spacing (bodies.constant vs.x)) e r.then_gave)
      (constant-rows i here at n c vs.x b.x r.x h both.0 vs.gave b.gave (row_fits i here at b.x c r.x h both.1 r.gave)))
  each-vector-fits i here (u.character x) s e h k m =
      subst (λ (y : Shape). IsVector here y e) (same_Some one s k) (subst (IsVector here one) (ok (bodies.constant (x ∷ [])) e m) (one_character here x))
  each-vector-fits i here (u.enclosed_character x) s e h k m =
      subst (λ (y : Shape). IsVector here y e) (same_Some one s k) (subst (IsVector here one) (ok (bodies.constant (x ∷ [])) e m) (one_character here x))
  each-vector-fits i here (u.Vector.literal at xs) s e h k m =
      let n = bound (as_size at (length xs)) _ e m in
      subst (λ (y : Shape). IsVector here y e) (same_Some vector s k)
      (subst (IsVector here vector) (ok (bodies.constant xs) e n.then_gave) (constant_vector here xs (asked at (length xs) n.x n.gave).0))
  each-vector-fits i here (u.Vector.inverse v) s e h k m =
      let d = bound (x.vector here v) _ e m in
      let w = each-vector-fits i here v s d.x h k d.gave in
      subst (IsVector here s) (ok (bodies.inverse d.x) e d.then_gave) (record { of_elements = w.of_elements; fits = w.fits; width = w.width })
  each-vector-fits i here (u.Vector.binary at op v w) s e h k m =
      let y = step (vector_shape i v) _ s k in
      let z = step (vector_shape i w) _ s y.then_gave in
      let c = bound (x.vector here v) _ e m in
      let d = bound (x.vector here w) _ e c.then_gave in
      operated-fits here at op y.x z.x s c.x d.x e (each-vector-fits i here v y.x c.x h y.gave c.gave) (each-vector-fits i here w z.x d.x h z.gave d.gave) z.then_gave d.then_gave
  each-vector-fits i here (u.with_integer at op v n) s e h k m =
      let y = static-shape i v n s k in
      let c = bound (x.vector here v) _ e m in
      let j = bound (natural here.integers at n) _ e c.then_gave in
      let w = each-vector-fits i here v y.shape c.x h y.is c.gave in
      subst (λ (q : Shape). IsVector here q e) y.result
      (arithmetic here at op y.shape vector c.x (bodies.constant (digits_of (width c.x) j.x)) e w (beside here y.shape c.x j.x w) j.then_gave)
  each-vector-fits i here (u.integer_with at op n v) s e h k m =
      let y = static-shape i v n s k in
      let j = bound (natural here.integers at n) _ e m in
      let c = bound (x.vector here v) _ e j.then_gave in
      let w = each-vector-fits i here v y.shape c.x h y.is c.gave in
      subst (λ (q : Shape). IsVector here q e) y.result
      (arithmetic here at op vector y.shape (bodies.constant (digits_of (width c.x) j.x)) c.x e (beside here y.shape c.x j.x w) w c.then_gave)
  each-vector-fits i here (u.with_computed at op v n) s e h k m =
      let w = given_some (is_vector_shape (vector_shape i v) && computed_fits i n) vector s k in
      let both = and_parts (is_vector_shape (vector_shape i v)) (computed_fits i n) w.0 in
      let c = bound (x.vector here v) _ e m in
      let z = bound (x.computed here at n) _ e c.then_gave in
      let q = each-vector-fits i here v vector c.x h (vector-shape (vector_shape i v) both.0) c.gave in
      let y = computed-beside here vector c.x z.x q (computed_is_number i here at n z.x h both.1 z.gave) in
      subst (λ (a : Shape). IsVector here a e) w.1 (arithmetic here at op vector vector c.x (natural_digits (width c.x) z.x) e q y z.then_gave)
  each-vector-fits i here (u.computed_with at op n v) s e h k m =
      let w = given_some (computed_fits i n && is_vector_shape (vector_shape i v)) vector s k in
      let both = and_parts (computed_fits i n) (is_vector_shape (vector_shape i v)) w.0 in
      let z = bound (x.computed here at n) _ e m in
      let c = bound (x.vector here v) _ e z.then_gave in
      let q = each-vector-fits i here v vector c.x h (vector-shape (vector_shape i v) both.1) c.gave in
      let y = computed-beside here vector c.x z.x q (computed_is_number i here at n z.x h both.0 z.gave) in
      subst (λ (a : Shape). IsVector here a e) w.1 (arithmetic here at op vector vector (natural_digits (width c.x) z.x) c.x e y q c.then_gave)
  each-vector-fits i here (u.computed_encoded at n t) s e h k m =
      let w = given_some (computed_fits i n && static_fits i t) vector s k in
      let both = and_parts (computed_fits i n) (static_fits i t) w.0 in
      let z = bound (x.computed here at n) _ e m in
      let len = bound (size_of here.integers at t) _ e z.then_gave in
      let q = size_is_width here.integers at t len.x len.gave in
      let long = natural_digits_long here len.x z.x q (computed_is_number i here at n z.x h both.0 z.gave) in
      subst (λ (a : Shape). IsVector here a e) w.1
      (subst (IsVector here vector) (ok (natural_digits len.x z.x) e len.then_gave)
      (record { of_elements = refl; fits = long.fits; width = subst IsWidth (sym long.long) q }))
  each-vector-fits i here (u.shifted at by v n) s e h k m =
      let w = given_some (is_vector_shape (vector_shape i v) && computed_fits i n) vector s k in
      let both = and_parts (is_vector_shape (vector_shape i v)) (computed_fits i n) w.0 in
      let c = bound (x.vector here v) _ e m in
      let z = bound (x.computed here at n) _ e c.then_gave in
      let q = each-vector-fits i here v vector c.x h (vector-shape (vector_shape i v) both.0) c.gave in
      subst (λ (a : Shape). IsVector here a e) w.1
      (subst (IsVector here vector) (ok (bodies.shifted by z.x.digits c.x) e z.then_gave)
      (record { of_elements = refl; fits = ((computed_is_number i here at n z.x h both.1 z.gave).fits, q.fits); width = q.width }))
  each-vector-fits i here (u.Vector.encoded at n size) s e h k m =
      let j = bound (natural here.integers at n) _ e m in
      let len = bound (size_of here.integers at size) _ e j.then_gave in
      subst (λ (q : Shape). IsVector here q e) (given_some (static_fits i n && static_fits i size) vector s k).1
      (subst (IsVector here vector) (ok (bodies.constant (digits_of len.x j.x)) e len.then_gave)
      (constant_vector here (digits_of len.x j.x) (subst IsWidth (sym (length-digits_of len.x j.x)) (size_is_width here.integers at size len.x len.gave))))
  each-vector-fits i here (u.counted at op v n) s e h k m =
      let y = static-shape i v n s k in
      let c = bound (x.vector here v) _ e m in
      let j = bound (count_of op here.integers at n) _ e c.then_gave in
      let w = each-vector-fits i here v y.shape c.x h y.is c.gave in
      let q = count_is_count op here.integers at n j.x j.gave in
      subst (λ (z : Shape). IsVector here z e) y.result
      (subst (IsVector here vector) (ok (bodies.counted op j.x c.x) e j.then_gave) (record {
        of_elements = refl;
        fits = (q, w.fits);
        width = counted_within op j.x (width c.x) q (vector_width here y.shape c.x w);
      }))
  each-vector-fits i here (u.aggregate at r es) s e h k m =
      let fit = given_some (any_range_fits i r && elements_fit i es) vector s k in
      let both = and_parts (any_range_fits i r) (elements_fit i es) fit.0 in
      let all = bound (given_indexes here.integers at r) _ e m in
      let ys = bound (x.elements here at all.x [] es) _ e all.then_gave in
      let w = composed_whole here at all.x ys.x e (given_few here.integers at r all.x all.gave) (elements-fit i here at all.x [] es ys.x h both.1 ys.gave) ys.then_gave in
      subst (λ (z : Shape). IsVector here z e) fit.1 (record { of_elements = refl; fits = w.fits; width = w.width })
  each-vector-fits i here (u.sized at r v) s e h k m =
      let y = step (vector_shape i v) _ s k in
      let fit = given_some (is_vector y.x && range_fits i r) vector s y.then_gave in
      let c = bound (x.vector here v) _ e m in
      let b = bound (declared_bounds here.integers at r) _ e c.then_gave in
      let same = bound (same_length at (width c.x) (bounds_size b.x)) _ e b.then_gave in
      let w = each-vector-fits i here v y.x c.x h y.gave c.gave in
      subst (λ (z : Shape). IsVector here z e) fit.1
      (subst (IsVector here vector) (ok c.x e same.then_gave) (record { of_elements = refl; fits = w.fits; width = vector_width here y.x c.x w }))

  elements-fit : (i : Inside) (here : Site) (at : ℕ) (all : Option (List ℤ)) (taken : List ℤ) (es : Elements) (ys : List Placed) → IsSite i here → elements_fit i es ≡ true
      → x.elements here at all taken es ≡ Ok ys → All (PlacedFits here) ys
  elements-fit i here at all taken u.no_elements ys h k m = subst (All (PlacedFits here)) (ok [] ys m) (All-nil (PlacedFits here))
  elements-fit i here at all taken (u.next v es) ys h k m =
      let both = and_parts (are_elements (vector_shape i v)) (elements_fit i es) k in
      let z = some-shape (vector_shape i v) both.0 in
      let e = bound (x.vector here v) _ ys m in
      let rest = bound (x.elements here at all taken es) _ ys e.then_gave in
      let w = each-vector-fits i here v z.shape e.x h z.is e.gave in
      subst (All (PlacedFits here)) (ok (next e.x ∷ rest.x) ys rest.then_gave)
      (All-cons (PlacedFits here) (next e.x) rest.x (record { fits = w.fits; width = vector_width here z.shape e.x w }) (elements-fit i here at all taken es rest.x h both.1 rest.gave))
  elements-fit i here at all taken (u.chosen cs v es) ys h k m =
      let both = and_parts (list_all (index_fits i) cs && is_one (vector_shape i v)) (elements_fit i es) k in
      let first = and_parts (list_all (index_fits i) cs) (is_one (vector_shape i v)) both.0 in
      let is = bound (chosen_indexes here.integers all taken cs) _ ys m in
      let e = bound (x.vector here v) _ ys is.then_gave in
      let l = bound (same_length at (width e.x) 1) _ ys e.then_gave in
      let rest = bound (x.elements here at all (taken ++ is.x) es) _ ys l.then_gave in
      subst (All (PlacedFits here)) (ok (chosen is.x e.x ∷ rest.x) ys rest.then_gave)
      (All-cons (PlacedFits here) (chosen is.x e.x) rest.x (one-fits here at e.x l.x (each-vector-fits i here v one e.x h (one-shape (vector_shape i v) first.1) e.gave) l.gave) (elements-fit i here at all (taken ++ is.x) es rest.x h both.1 rest.gave))
  elements-fit i here at all taken (u.Elements.others v) ys h k m =
      let e = bound (x.vector here v) _ ys m in
      let l = bound (same_length at (width e.x) 1) _ ys e.then_gave in
      subst (All (PlacedFits here)) (ok (others e.x ∷ []) ys l.then_gave)
      (All-cons (PlacedFits here) (others e.x) [] (one-fits here at e.x l.x (each-vector-fits i here v one e.x h (one-shape (vector_shape i v) k) e.gave) l.gave) (All-nil (PlacedFits here)))
