-- Operators make of operands that are what their types say such results (IEEE 1076-2008, 9.2).
use Rattle.std.proofs.Common.{◌≡◌, ℕ, Bool, true, false, ◌&&◌, ◌==◌, Option, Some, None, refl, ap, sym, ◌∙◌, subst}
use Rattle.std.specs.Prelude.{slice_get}
use Rattle.std.specs.Option.{option_or}
use Rattle.std.proofs.lemmas.Bool.{and_from, eqb-true}
use Rattle.vhdl_lexer.specs.declared.language.Language.{Language}
use Rattle.vhdl_values.specs.declared.kinds.Logic.{Logic}
use Rattle.vhdl_values.specs.declared.kinds.Logic.TheVariants.{Xor, Xnor}
use Rattle.vhdl_values.specs.declared.kinds.Cmp.{Cmp}
use Rattle.vhdl_tree.specs.declared.operator.Operator.{Operator}
use Rattle.vhdl_tree.specs.declared.operator.Operator.TheVariants as op
use Rattle.vhdl_names_rules.specs.declared.kind.ElementKind.{ElementKind}
use Rattle.vhdl_names_rules.specs.declared.kind.ElementKind.TheVariants.{Element, LogicVector, Unsigned, OpenVector}
use Rattle.vhdl_names_rules.specs.declared.operator.Arithmetic.{Arithmetic}
use Rattle.vhdl_names_rules.specs.declared.operator.Arithmetic.TheVariants.{Power}
use Rattle.vhdl_names_rules.specs.declared.operator.Numeric.{Numeric}
use Rattle.vhdl_names_rules.specs.declared.operator.VectorOperator.{VectorOperator}
use Rattle.vhdl_names_rules.specs.declared.operator.VectorOperator.TheVariants as v
use Rattle.vhdl_names_rules.specs.units.Expressions as e
use Rattle.vhdl_names_rules.specs.units.Expressions.{Static, Computed, Vector, Value, Test}
use Rattle.vhdl_names_rules.specs.Rules.{◌>>=◌, met, then_some, wider}
use Rattle.vhdl_names_rules.specs.Operators as o
use Rattle.vhdl_names_rules.specs.Operators.{Typed, common_kind, joined_kind, is_number, are_numbers, binary, both, negated, logical, inverse, concatenated, as_computed, computes, raised, integral, arithmetic, integers_compared, compares, equal_by, equality, ordering, truths_related, operated, beside_vector}
use Rattle.vhdl_names_rules.specs.Types.{TypedElements}
use Rattle.vhdl_names_rules.specs.sound.Expressions.{Inside, Shape, one, vector, state, static_fits, static_test_fits, same_shape, is_elements, is_vector_shape, computed_fits, operated_shape, with_static, vector_shape, value_shape, fits_shape, value_fits, value_fits_beside, values_fit, test_fits}
use Rattle.vhdl_names_laws.specs.Meanings.{Counts, kind_shape, TypedFits, ElementsFit}
use Rattle.vhdl_names_laws.proofs.Statics.{some_same}
use Rattle.vhdl_names_laws.proofs.Shapes.{Given, given, wider_is, of_either, shape_elements, same_self, same_shapes, fits_self, kind_is_vector}
use Rattle.vhdl_names_laws.proofs.Aggregates.{aggregate_fits}
use Rattle.vhdl_names_rules.proofs.kept.Keeping.{mapped}
use Rattle.vhdl_names_rules.proofs.laws.Rules.{comes, kept}

-- ---- shapes

-- a number is a vector
number_shape : (k : ElementKind) → is_number k ≡ true → kind_shape k ≡ vector
number_shape Unsigned h = refl
number_shape OpenVector h = refl
number_shape _ h = absurd cc

numbers_shape : (j k : ElementKind) → are_numbers j k ≡ true → (kind_shape j ≡ vector) × (kind_shape k ≡ vector)
numbers_shape Unsigned k h = (refl, number_shape k h)
numbers_shape OpenVector k h = (refl, number_shape k h)
numbers_shape _ k h = absurd cc

record Common (j k c : ElementKind) : Type 0 where
  left : kind_shape j ≡ kind_shape c
  right : kind_shape k ≡ kind_shape c

common : (j k c : ElementKind) → common_kind j k ≡ Some c → Common j k c
common j k c h = by j k h
  where
    same : (j k d : ElementKind) → Some d ≡ Some c → kind_shape j ≡ kind_shape d → kind_shape k ≡ kind_shape d → Common j k c
    same j k d h l r = let g : d ≡ c = some_same d c h in record { left = l ∙ ap kind_shape g; right = r ∙ ap kind_shape g }

    by : (j k : ElementKind) → common_kind j k ≡ Some c → Common j k c
    by Element Element h = same Element Element Element h refl refl
    by LogicVector LogicVector h = same LogicVector LogicVector LogicVector h refl refl
    by LogicVector OpenVector h = same LogicVector OpenVector LogicVector h refl refl
    by Unsigned Unsigned h = same Unsigned Unsigned Unsigned h refl refl
    by Unsigned OpenVector h = same Unsigned OpenVector Unsigned h refl refl
    by OpenVector LogicVector h = same OpenVector LogicVector LogicVector h refl refl
    by OpenVector Unsigned h = same OpenVector Unsigned Unsigned h refl refl
    by OpenVector OpenVector h = same OpenVector OpenVector OpenVector h refl refl
    by _ _ h = absurd cc

-- a concatenation is a vector
joined : (j k c : ElementKind) → joined_kind j k ≡ Some c → kind_shape c ≡ vector
joined j k c h = by j k h
  where
    is : (d : ElementKind) → Some d ≡ Some c → kind_shape d ≡ vector → kind_shape c ≡ vector
    is d h t = ap kind_shape (sym (some_same d c h)) ∙ t

    by : (j k : ElementKind) → joined_kind j k ≡ Some c → kind_shape c ≡ vector
    by Element Element h = is OpenVector h refl
    by LogicVector Unsigned h = absurd cc
    by Unsigned LogicVector h = absurd cc
    by OpenVector LogicVector h = is LogicVector h refl
    by OpenVector Unsigned h = is Unsigned h refl
    by Element k h = is k h refl
    by j _ h = is j h refl

-- ---- values of an enumeration

-- beside a value of its shape another one fits
beside : (i : Inside) (count : ℕ) (o : Option Shape) (y : Value) → fits_shape (state count) o ≡ true → value_fits i (state count) y ≡ true
    → value_fits_beside i o y ≡ true
beside i count None y h t = absurd cc
beside i count (Some z) y h t = ap (λ z. value_fits i z y) (sym (same_shapes (state count) z h)) ∙ t

pub states_fit : (i : Inside) (count : ℕ) (x y : Value) → value_fits i (state count) x ≡ true → value_fits i (state count) y ≡ true → values_fit i x y ≡ true
states_fit i count (e.Value.position p) (e.Value.position q) h t = refl
states_fit i count (e.Value.elements x) y h t = beside i count (value_shape i (e.Value.elements x)) y h t
states_fit i count (e.state_of x) y h t = beside i count (value_shape i (e.state_of x)) y h t
states_fit i count (e.state_of_variable x) y h t = beside i count (value_shape i (e.state_of_variable x)) y h t
states_fit i count (e.Value.computed x) y h t = beside i count (value_shape i (e.Value.computed x)) y h t
states_fit i count (e.static_truth b) y h t = beside i count (value_shape i (e.static_truth b)) y h t
states_fit i count x y h t = beside i count (value_shape i y) x t h

-- two of one shape
pub elements_fit : (i : Inside) (x y : Vector) (z : Shape) → vector_shape i x ≡ Some z → vector_shape i y ≡ Some z
    → values_fit i (e.Value.elements x) (e.Value.elements y) ≡ true
elements_fit i x y z h t = ap (λ o. value_fits_beside i o (e.Value.elements y)) h ∙ fits_self z (vector_shape i y) t

-- ---- operators

module _ (i : Inside) (counts : Counts) where
  -- the result fits, if what it is does
  known : (x y : Typed) → Some x ≡ Some y → TypedFits i counts x → TypedFits i counts y
  known x y h t = subst (TypedFits i counts) (some_same x y h) t

  vector_is : (x : Vector) (k : ElementKind) → vector_shape i x ≡ Some (kind_shape k) → kind_shape k ≡ vector → vector_shape i x ≡ Some vector
  vector_is x k h t = h ∙ ap Some t

  with_static_is : (o : Option Shape) (n : Static) → o ≡ Some vector → static_fits i n ≡ true → with_static i o n ≡ Some vector
  with_static_is o n h t = ap (λ o. with_static i o n) h ∙ ap (λ b. then_some b vector) t

  two : (at : ℕ) (x y : Vector) (op : VectorOperator) (a b : Shape) → vector_shape i x ≡ Some a → vector_shape i y ≡ Some b
      → vector_shape i (e.Vector.binary at op x y) ≡ operated_shape op a b
  two at x y op a b h t = ap (λ o. o >>= λ a. vector_shape i y >>= λ b. operated_shape op a b) h ∙ ap (λ o. o >>= λ b. operated_shape op a b) t

  pub both_fits : (op : Logic) (s t : Test) → test_fits i s ≡ true → test_fits i t ≡ true → test_fits i (both op s t) ≡ true
  both_fits op (e.Test.fixed s) (e.Test.fixed t) h k = and_from (static_test_fits i s) (static_test_fits i t) h k
  both_fits op (e.Test.fixed s) _ h k = and_from (static_test_fits i s) _ h k
  both_fits op _ t h k = and_from _ (test_fits i t) h k

  pub negated_fits : (t : Test) → test_fits i t ≡ true → test_fits i (negated t) ≡ true
  negated_fits (e.Test.fixed t) h = h
  negated_fits _ h = h

  pub inverse_fits : (x y : Typed) → TypedFits i counts x → inverse x ≡ Some y → TypedFits i counts y
  inverse_fits (o.elements k x) y h t = known (o.elements k (e.Vector.inverse x)) y t h
  inverse_fits (o.truth s) y h t = known (o.truth (negated s)) y t (negated_fits s h)
  inverse_fits _ y h t = absurd cc

  logical_shape : (op : Logic) (a : Shape) → is_elements a ≡ true → operated_shape (v.Logical op) a a ≡ Some a
  logical_shape op a h = ap (λ b. then_some b a) (and_from (same_shape a a) (is_elements a) (same_self a) h)

  logical_fits : (at : ℕ) (op : Logic) (x y z : Typed) → TypedFits i counts x → TypedFits i counts y → logical at op x y ≡ Some z → TypedFits i counts z
  logical_fits at op (o.elements j x) (o.elements k y) z h t g =
      let c = mapped (binary at (v.Logical op) x y) (common_kind j k) z g in
      let s = common j k c.value c.from in
      subst (TypedFits i counts) c.is
      (two at x y (v.Logical op) (kind_shape c.value) (kind_shape c.value) (h ∙ ap Some s.left) (t ∙ ap Some s.right) ∙ logical_shape op (kind_shape c.value) (shape_elements c.value))
  logical_fits at op (o.truth s) (o.truth r) z h t g = known (o.truth (both op s r)) z g (both_fits op s r h t)
  logical_fits at op _ _ z h t g = absurd cc

  concatenated_fits : (at : ℕ) (x y z : Typed) → TypedFits i counts x → TypedFits i counts y → concatenated at x y ≡ Some z → TypedFits i counts z
  concatenated_fits at (o.elements j x) (o.elements k y) z h t g =
      let c = mapped (binary at v.Concatenate x y) (joined_kind j k) z g in
      subst (TypedFits i counts) c.is
      (two at x y v.Concatenate (kind_shape j) (kind_shape k) h t
      ∙ ap (λ b. then_some b vector) (and_from (is_elements (kind_shape j)) (is_elements (kind_shape k)) (shape_elements j) (shape_elements k))
      ∙ ap Some (sym (joined j k c.value c.from)))
  concatenated_fits at _ _ z h t g = absurd cc

  -- an integer, which a run may compute
  pub as_computed_fits : (x : Typed) (y : Computed) → TypedFits i counts x → as_computed x ≡ Some y → computed_fits i y ≡ true
  as_computed_fits (o.integer s) y h g = subst (λ y. computed_fits i y ≡ true) (some_same (e.static s) y g) h
  as_computed_fits (o.computed z) y h g = subst (λ y. computed_fits i y ≡ true) (some_same z y g) h
  as_computed_fits _ y h g = absurd cc

  computes_fits : (at : ℕ) (op : Arithmetic) (x y z : Typed) → TypedFits i counts x → TypedFits i counts y → computes at op x y ≡ Some z → TypedFits i counts z
  computes_fits at op x y z h t g =
      let a = comes (as_computed x) (λ a. as_computed y >>= λ b. Some (o.computed (e.calculated at op a b))) z g in
      let b = comes (as_computed y) (λ b. Some (o.computed (e.calculated at op a.value b))) z a.rest in
      known (o.computed (e.calculated at op a.value b.value)) z b.rest
      (and_from (computed_fits i a.value) (computed_fits i b.value) (as_computed_fits x a.value h a.is) (as_computed_fits y b.value t b.is))

  pub raised_fits : (at : ℕ) (x y z : Typed) → TypedFits i counts x → TypedFits i counts y → raised at x y ≡ Some z → TypedFits i counts z
  raised_fits at (o.integer s) (o.integer r) z h t g = known (o.integer (e.Static.binary at Power s r)) z g (and_from (static_fits i s) (static_fits i r) h t)
  raised_fits at _ _ z h t g = absurd cc

  integral_fits : (at : ℕ) (op : Arithmetic) (x y z : Typed) → TypedFits i counts x → TypedFits i counts y → integral at op x y ≡ Some z → TypedFits i counts z
  integral_fits at op (o.integer s) (o.integer r) z h t g = known (o.integer (e.Static.binary at op s r)) z g (and_from (static_fits i s) (static_fits i r) h t)
  integral_fits at op x y z h t g = computes_fits at op x y z h t g

  -- a result that is there where operators of numbers are in sight, and something holds
  ruled : (numbers b : Bool) (x y : Typed) → (met numbers >>= λ _. then_some b x) ≡ Some y → Given b x y
  ruled true b x y h = given b x y h
  ruled false b x y h = absurd cc

  arithmetic_fits : (numbers : Bool) (at : ℕ) (op : Arithmetic) (by : Numeric) (x y z : Typed) → TypedFits i counts x → TypedFits i counts y
      → arithmetic numbers at op by x y ≡ Some z → TypedFits i counts z
  arithmetic_fits numbers at op by (o.integer s) (o.integer r) z h t g = known (o.integer (e.Static.binary at op s r)) z g (and_from (static_fits i s) (static_fits i r) h t)
  arithmetic_fits numbers at op by (o.elements j x) (o.elements k y) z h t g =
      let c = ruled numbers (are_numbers j k) (o.elements Unsigned (e.Vector.binary at (v.Arithmetic by) x y)) z g in
      let s = numbers_shape j k c.holds in
      subst (TypedFits i counts) c.is (two at x y (v.Arithmetic by) vector vector (vector_is x j h s.0) (vector_is y k t s.1))
  arithmetic_fits numbers at op by (o.elements j x) (o.integer s) z h t g =
      let c = ruled numbers (is_number j) (o.elements Unsigned (e.with_integer at by x s)) z g in
      subst (TypedFits i counts) c.is (with_static_is (vector_shape i x) s (vector_is x j h (number_shape j c.holds)) t)
  arithmetic_fits numbers at op by (o.integer s) (o.elements k y) z h t g =
      let c = ruled numbers (is_number k) (o.elements Unsigned (e.integer_with at by s y)) z g in
      subst (TypedFits i counts) c.is (with_static_is (vector_shape i y) s (vector_is y k t (number_shape k c.holds)) h)
  arithmetic_fits numbers at op by (o.elements j x) (o.computed s) z h t g =
      let c = ruled numbers (is_number j) (o.elements Unsigned (e.with_computed at by x s)) z g in
      subst (TypedFits i counts) c.is
      (ap (λ b. then_some b vector) (and_from (is_vector_shape (vector_shape i x)) (computed_fits i s) (ap is_vector_shape (vector_is x j h (number_shape j c.holds))) t))
  arithmetic_fits numbers at op by (o.computed s) (o.elements k y) z h t g =
      let c = ruled numbers (is_number k) (o.elements Unsigned (e.computed_with at by s y)) z g in
      subst (TypedFits i counts) c.is
      (ap (λ b. then_some b vector) (and_from (computed_fits i s) (is_vector_shape (vector_shape i y)) h (ap is_vector_shape (vector_is y k t (number_shape k c.holds)))))
  arithmetic_fits numbers at op by x y z h t g = integral_fits at op x y z h t g

  -- ---- relations

  compares_fits : (at : ℕ) (op : Cmp) (x y z : Typed) → TypedFits i counts x → TypedFits i counts y → compares at op x y ≡ Some z → TypedFits i counts z
  compares_fits at op x y z h t g =
      let a = comes (as_computed x) (λ a. as_computed y >>= λ b. Some (o.truth (e.computed_compared at op a b))) z g in
      let b = comes (as_computed y) (λ b. Some (o.truth (e.computed_compared at op a.value b))) z a.rest in
      known (o.truth (e.computed_compared at op a.value b.value)) z b.rest
      (and_from (computed_fits i a.value) (computed_fits i b.value) (as_computed_fits x a.value h a.is) (as_computed_fits y b.value t b.is))

  -- a test of two values, such as equality or its negation
  abbrev Compares : (Value → Value → Test) → Type 0
  Compares same = (x y : Value) → test_fits i (same x y) ≡ values_fit i x y

  compared_fits : (x y : Vector) → vector_shape i x ≡ Some vector → vector_shape i y ≡ Some vector
      → (fits_shape vector (vector_shape i x) && fits_shape vector (vector_shape i y)) ≡ true
  compared_fits x y h t = and_from (fits_shape vector (vector_shape i x)) (fits_shape vector (vector_shape i y)) (fits_self vector (vector_shape i x) h) (fits_self vector (vector_shape i y) t)

  equal_fits : (at : ℕ) (op : Cmp) (same : Value → Value → Test) → Compares same → (x y : Vector) (k : ElementKind) → vector_shape i x ≡ Some (kind_shape k) → vector_shape i y ≡ Some (kind_shape k)
      → TypedFits i counts (equal_by at op same x y k)
  equal_fits at op same c x y Unsigned h t = compared_fits x y h t
  equal_fits at op same c x y Element h t = c (e.Value.elements x) (e.Value.elements y) ∙ elements_fit i x y one h t
  equal_fits at op same c x y _ h t = c (e.Value.elements x) (e.Value.elements y) ∙ elements_fit i x y vector h t

  -- enumerations of one number have one count
  counted : (d e m n : ℕ) → (d == e) ≡ true → slice_get counts d ≡ Some m → slice_get counts e ≡ Some n → m ≡ n
  counted d e m n h s t = some_same m n (sym s ∙ (ap (slice_get counts) (eqb-true d e h) ∙ t))

  -- an aggregate beside a vector has its shape
  beside_fits : (k : ElementKind) (p : ℕ) (es : TypedElements) (y : Vector) → ElementsFit i counts es → beside_vector k p es ≡ Some y → vector_shape i y ≡ Some (kind_shape k)
  beside_fits k p es y h g =
      let v = kept (o.is_vector k) _ y g in
      aggregate_fits i counts k p None es y refl h v.1 ∙ ap Some (sym (kind_is_vector k v.0))

  equality_fits : (at : ℕ) (op : Cmp) (same : Value → Value → Test) → Compares same → (x y z : Typed) → TypedFits i counts x → TypedFits i counts y
      → equality at op same x y ≡ Some z → TypedFits i counts z
  equality_fits at op same c (o.integer s) (o.integer r) z h t g = known (integers_compared at op s r) z g (and_from (static_fits i s) (static_fits i r) h t)
  equality_fits at op same c (o.elements j x) (o.elements k y) z h t g =
      let f = mapped (equal_by at op same x y) (common_kind j k) z g in
      let s = common j k f.value f.from in
      subst (TypedFits i counts) f.is (equal_fits at op same c x y f.value (h ∙ ap Some s.left) (t ∙ ap Some s.right))
  equality_fits at op same c (o.elements Unsigned x) (o.integer s) z h t g =
      known (o.truth (e.compared_to at op x s)) z g (and_from (fits_shape vector (vector_shape i x)) (static_fits i s) (fits_self vector (vector_shape i x) h) t)
  equality_fits at op same c (o.integer s) (o.elements Unsigned y) z h t g =
      known (o.truth (e.compared_with at op s y)) z g (and_from (static_fits i s) (fits_shape vector (vector_shape i y)) h (fits_self vector (vector_shape i y) t))
  equality_fits at op same c (o.enumerated d m x) (o.enumerated e n y) z h t g =
      let f = given (d == e) (o.truth (same x y)) z g in
      let s = counted d e m n f.holds h.1 t.1 in
      subst (TypedFits i counts) f.is (c x y ∙ states_fit i n x y (ap (λ m. value_fits i (state m) x) (sym s) ∙ h.0) t.0)
  equality_fits at op same c (o.elements k x) (o.composite p es) z h t g =
      let f = mapped (λ y. equal_by at op same x y k) (beside_vector k p es) z g in
      subst (TypedFits i counts) f.is (equal_fits at op same c x f.value k h (beside_fits k p es f.value t f.from))
  equality_fits at op same c (o.composite p es) (o.elements k y) z h t g =
      let f = mapped (λ x. equal_by at op same x y k) (beside_vector k p es) z g in
      subst (TypedFits i counts) f.is (equal_fits at op same c f.value y k (beside_fits k p es f.value h f.from) t)
  equality_fits at op same c (o.elements Unsigned x) (o.computed s) z h t g =
      known (o.truth (e.compared_to_computed at op x s)) z g (and_from (fits_shape vector (vector_shape i x)) (computed_fits i s) (fits_self vector (vector_shape i x) h) t)
  equality_fits at op same c (o.computed s) (o.elements Unsigned y) z h t g =
      known (o.truth (e.compared_with_computed at op s y)) z g (and_from (computed_fits i s) (fits_shape vector (vector_shape i y)) h (fits_self vector (vector_shape i y) t))
  equality_fits at op same c x y z h t g = compares_fits at op x y z h t g

  ordering_fits : (numbers : Bool) (at : ℕ) (op : Cmp) (x y z : Typed) → TypedFits i counts x → TypedFits i counts y → ordering numbers at op x y ≡ Some z → TypedFits i counts z
  ordering_fits numbers at op (o.integer s) (o.integer r) z h t g = known (integers_compared at op s r) z g (and_from (static_fits i s) (static_fits i r) h t)
  ordering_fits numbers at op (o.elements j x) (o.elements k y) z h t g =
      let c = ruled numbers (are_numbers j k) (o.truth (e.Test.compared at op x y)) z g in
      let s = numbers_shape j k c.holds in
      subst (TypedFits i counts) c.is (compared_fits x y (vector_is x j h s.0) (vector_is y k t s.1))
  ordering_fits numbers at op (o.elements j x) (o.integer s) z h t g =
      let c = ruled numbers (is_number j) (o.truth (e.compared_to at op x s)) z g in
      subst (TypedFits i counts) c.is
      (and_from (fits_shape vector (vector_shape i x)) (static_fits i s) (fits_self vector (vector_shape i x) (vector_is x j h (number_shape j c.holds))) t)
  ordering_fits numbers at op (o.integer s) (o.elements k y) z h t g =
      let c = ruled numbers (is_number k) (o.truth (e.compared_with at op s y)) z g in
      subst (TypedFits i counts) c.is
      (and_from (static_fits i s) (fits_shape vector (vector_shape i y)) h (fits_self vector (vector_shape i y) (vector_is y k t (number_shape k c.holds))))
  ordering_fits numbers at op (o.elements j x) (o.computed s) z h t g =
      let c = ruled numbers (is_number j) (o.truth (e.compared_to_computed at op x s)) z g in
      subst (TypedFits i counts) c.is
      (and_from (fits_shape vector (vector_shape i x)) (computed_fits i s) (fits_self vector (vector_shape i x) (vector_is x j h (number_shape j c.holds))) t)
  ordering_fits numbers at op (o.computed s) (o.elements k y) z h t g =
      let c = ruled numbers (is_number k) (o.truth (e.compared_with_computed at op s y)) z g in
      subst (TypedFits i counts) c.is
      (and_from (computed_fits i s) (fits_shape vector (vector_shape i y)) h (fits_self vector (vector_shape i y) (vector_is y k t (number_shape k c.holds))))
  ordering_fits numbers at op x y z h t g = compares_fits at op x y z h t g

  operated_fits : (numbers : Bool) (at : ℕ) (by : Operator) (x y z : Typed) → TypedFits i counts x → TypedFits i counts y → operated numbers at by x y ≡ Some z → TypedFits i counts z
  operated_fits numbers at op.Equal x y z h t g = equality_fits at _ (e.alike at) (λ x y. refl) x y z h t g
  operated_fits numbers at op.NotEqual x y z h t g = equality_fits at _ (e.unlike at) (λ x y. refl) x y z h t g
  operated_fits numbers at op.Less x y z h t g = ordering_fits numbers at _ x y z h t g
  operated_fits numbers at op.LessEqual x y z h t g = ordering_fits numbers at _ x y z h t g
  operated_fits numbers at op.Greater x y z h t g = ordering_fits numbers at _ x y z h t g
  operated_fits numbers at op.GreaterEqual x y z h t g = ordering_fits numbers at _ x y z h t g
  operated_fits numbers at op.Add x y z h t g = arithmetic_fits numbers at _ _ x y z h t g
  operated_fits numbers at op.Subtract x y z h t g = arithmetic_fits numbers at _ _ x y z h t g
  operated_fits numbers at op.Concatenate x y z h t g = concatenated_fits at x y z h t g
  operated_fits numbers at op.Multiply x y z h t g = arithmetic_fits numbers at _ _ x y z h t g
  operated_fits numbers at op.Divide x y z h t g = integral_fits at _ x y z h t g
  operated_fits numbers at op.Modulo x y z h t g = integral_fits at _ x y z h t g
  operated_fits numbers at op.Remainder x y z h t g = integral_fits at _ x y z h t g
  operated_fits numbers at _ x y z h t g = logical_fits at _ x y z h t g

  -- = and /= of truths
  related_fits : (by : Operator) (x y z : Typed) → TypedFits i counts x → TypedFits i counts y → truths_related by x y ≡ Some z → TypedFits i counts z
  related_fits op.Equal (o.truth s) (o.truth r) z h t g = known (o.truth (both Xnor s r)) z g (both_fits Xnor s r h t)
  related_fits op.NotEqual (o.truth s) (o.truth r) z h t g = known (o.truth (both Xor s r)) z g (both_fits Xor s r h t)
  related_fits by x y z h t g = absurd cc

  -- an operator, with its right operand as it stands beside the left one, in either language
  pub binary_fits : (language : Language) (numbers : Bool) (at : ℕ) (by : Operator) (x y w z : Typed) → TypedFits i counts x → TypedFits i counts y → TypedFits i counts w
      → option_or (operated numbers at by x w) (wider language (truths_related by x y)) ≡ Some z → TypedFits i counts z
  binary_fits language numbers at by x y w z h t s g =
      of_either (TypedFits i counts) (operated numbers at by x w) (wider language (truths_related by x y)) z (λ z e. operated_fits numbers at by x w z h s e)
      (λ z e. related_fits by x y z h t (wider_is language (truths_related by x y) z e)) g
