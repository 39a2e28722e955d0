-- An operator makes of operands whose bytes stand a thing whose bytes stand, where it stands itself.
use Rattle.std.proofs.Common.{◌≡◌, ℕ, Bool, true, false, ◌==◌, ◌∷◌, ◌++◌, Some, None, refl, sym, subst}
use Rattle.std.specs.Option.{option_or}
use Rattle.vhdl_lexer.specs.declared.language.Language.{Language}
use Rattle.vhdl_values.specs.declared.kinds.Logic.{Logic}
use Rattle.vhdl_values.specs.declared.kinds.Logic.TheVariants.{Xor, Xnor}
use Rattle.vhdl_values.specs.declared.kinds.Cmp.{Cmp}
use Rattle.vhdl_tree.specs.declared.operator.Operator.{Operator}
use Rattle.vhdl_tree.specs.declared.operator.Operator.TheVariants as op
use Rattle.vhdl_names_rules.specs.declared.kind.ElementKind.{ElementKind}
use Rattle.vhdl_names_rules.specs.declared.kind.ElementKind.TheVariants.{Unsigned}
use Rattle.vhdl_names_rules.specs.declared.operator.Arithmetic.{Arithmetic}
use Rattle.vhdl_names_rules.specs.declared.operator.Arithmetic.TheVariants.{Power}
use Rattle.vhdl_names_rules.specs.declared.operator.Numeric.{Numeric}
use Rattle.vhdl_names_rules.specs.declared.operator.VectorOperator.TheVariants as v
use Rattle.vhdl_names_rules.specs.units.Expressions as e
use Rattle.vhdl_names_rules.specs.units.Expressions.{Computed, Vector, Value, Test}
use Rattle.vhdl_names_rules.specs.units.Bytes.{static_bytes, static_test_bytes, computed_bytes, vector_bytes, value_bytes, test_bytes}
use Rattle.vhdl_names_rules.specs.Rules.{◌>>=◌, met, then_some, wider}
use Rattle.vhdl_names_rules.specs.Operators as o
use Rattle.vhdl_names_rules.specs.Operators.{Typed, common_kind, joined_kind, is_number, are_numbers, binary, both, negated, logical, inverse, concatenated, as_computed, computes, raised, integral, arithmetic, integers_compared, compares, equal_by, equality, ordering, truths_related, operated, beside_vector}
use Rattle.vhdl_names_laws.proofs.Statics.{some_same}
use Rattle.vhdl_names_laws.proofs.Shapes.{Given, given, of_either, wider_is}
use Rattle.vhdl_names_rules.proofs.kept.Keeping.{mapped}
use Rattle.vhdl_names_laws.proofs.standing.Holding.{Hold, hold_both, TypedHolds, ElementsHold}
use Rattle.vhdl_names_laws.proofs.standing.Aggregates.{aggregate_holds}
use Rattle.vhdl_names_rules.specs.Types.{TypedElements}
use Rattle.vhdl_names_rules.proofs.laws.Rules.{comes, kept}

module _ (P : ℕ → Type 0) where
  known : (x y : Typed) → Some x ≡ Some y → TypedHolds P x → TypedHolds P y
  known x y h t = subst (TypedHolds P) (some_same x y h) t

  both_hold : (op : Logic) (s t : Test) → Hold P (test_bytes s) → Hold P (test_bytes t) → Hold P (test_bytes (both op s t))
  both_hold op (e.Test.fixed s) (e.Test.fixed t) h k = hold_both P (static_test_bytes s) (static_test_bytes t) h k
  both_hold op (e.Test.fixed s) t h k = hold_both P (static_test_bytes s) (test_bytes t) h k
  both_hold op s t h k = hold_both P (test_bytes s) (test_bytes t) h k

  pub negated_hold : (t : Test) → Hold P (test_bytes t) → Hold P (test_bytes (negated t))
  negated_hold (e.Test.fixed t) h = h
  negated_hold _ h = h

  pub inverse_holds : (x y : Typed) → TypedHolds P x → inverse x ≡ Some y → TypedHolds P y
  inverse_holds (o.elements k x) y h t = known (o.elements k (e.Vector.inverse x)) y t h
  inverse_holds (o.truth s) y h t = known (o.truth (negated s)) y t (negated_hold s h)
  inverse_holds _ y h t = absurd cc

  -- an integer, which a run may compute
  pub as_computed_holds : (x : Typed) (y : Computed) → TypedHolds P x → as_computed x ≡ Some y → Hold P (computed_bytes y)
  as_computed_holds (o.integer s) y h g = subst (λ y. Hold P (computed_bytes y)) (some_same (e.static s) y g) h
  as_computed_holds (o.computed z) y h g = subst (λ y. Hold P (computed_bytes y)) (some_same z y g) h
  as_computed_holds _ y h g = absurd cc

  -- a result that is there where operators of numbers are in sight, and something holds
  ruled : (numbers b : Bool) (x y : Typed) → (met numbers >>= λ _. then_some b x) ≡ Some y → Given b x y
  ruled true b x y h = given b x y h
  ruled false b x y h = absurd cc

  module _ (at : ℕ) (stands : P at) where
    two : (x y : Vector) → Hold P (vector_bytes x) → Hold P (vector_bytes y) → Hold P (at ∷ (vector_bytes x ++ vector_bytes y))
    two x y h t = (stands, hold_both P (vector_bytes x) (vector_bytes y) h t)

    logical_holds : (op : Logic) (x y z : Typed) → TypedHolds P x → TypedHolds P y → logical at op x y ≡ Some z → TypedHolds P z
    logical_holds op (o.elements j x) (o.elements k y) z h t g =
        let c = mapped (binary at (v.Logical op) x y) (common_kind j k) z g in
        subst (TypedHolds P) c.is (two x y h t)
    logical_holds op (o.truth s) (o.truth r) z h t g = known (o.truth (both op s r)) z g (both_hold op s r h t)
    logical_holds op _ _ z h t g = absurd cc

    concatenated_holds : (x y z : Typed) → TypedHolds P x → TypedHolds P y → concatenated at x y ≡ Some z → TypedHolds P z
    concatenated_holds (o.elements j x) (o.elements k y) z h t g =
        let c = mapped (binary at v.Concatenate x y) (joined_kind j k) z g in
        subst (TypedHolds P) c.is (two x y h t)
    concatenated_holds _ _ z h t g = absurd cc

    computes_holds : (op : Arithmetic) (x y z : Typed) → TypedHolds P x → TypedHolds P y → computes at op x y ≡ Some z → TypedHolds P z
    computes_holds op x y z h t g =
        let a = comes (as_computed x) (λ a. as_computed y >>= λ b. Some (o.computed (e.calculated at op a b))) z g in
        let b = comes (as_computed y) (λ b. Some (o.computed (e.calculated at op a.value b))) z a.rest in
        known (o.computed (e.calculated at op a.value b.value)) z b.rest
        (stands, hold_both P (computed_bytes a.value) (computed_bytes b.value) (as_computed_holds x a.value h a.is) (as_computed_holds y b.value t b.is))

    pub raised_holds : (x y z : Typed) → TypedHolds P x → TypedHolds P y → raised at x y ≡ Some z → TypedHolds P z
    raised_holds (o.integer s) (o.integer r) z h t g =
        known (o.integer (e.Static.binary at Power s r)) z g (stands, hold_both P (static_bytes s) (static_bytes r) h t)
    raised_holds _ _ z h t g = absurd cc

    integral_holds : (op : Arithmetic) (x y z : Typed) → TypedHolds P x → TypedHolds P y → integral at op x y ≡ Some z → TypedHolds P z
    integral_holds op (o.integer s) (o.integer r) z h t g =
        known (o.integer (e.Static.binary at op s r)) z g (stands, hold_both P (static_bytes s) (static_bytes r) h t)
    integral_holds op x y z h t g = computes_holds op x y z h t g

    arithmetic_holds : (numbers : Bool) (op : Arithmetic) (by : Numeric) (x y z : Typed) → TypedHolds P x → TypedHolds P y → arithmetic numbers at op by x y ≡ Some z
        → TypedHolds P z
    arithmetic_holds numbers op by (o.integer s) (o.integer r) z h t g =
        known (o.integer (e.Static.binary at op s r)) z g (stands, hold_both P (static_bytes s) (static_bytes r) h t)
    arithmetic_holds numbers op by (o.elements j x) (o.elements k y) z h t g =
        let c = ruled numbers (are_numbers j k) (o.elements Unsigned (e.Vector.binary at (v.Arithmetic by) x y)) z g in
        subst (TypedHolds P) c.is (two x y h t)
    arithmetic_holds numbers op by (o.elements j x) (o.integer s) z h t g =
        let c = ruled numbers (is_number j) (o.elements Unsigned (e.with_integer at by x s)) z g in
        subst (TypedHolds P) c.is (stands, hold_both P (vector_bytes x) (static_bytes s) h t)
    arithmetic_holds numbers op by (o.integer s) (o.elements k y) z h t g =
        let c = ruled numbers (is_number k) (o.elements Unsigned (e.integer_with at by s y)) z g in
        subst (TypedHolds P) c.is (stands, hold_both P (static_bytes s) (vector_bytes y) h t)
    arithmetic_holds numbers op by (o.elements j x) (o.computed s) z h t g =
        let c = ruled numbers (is_number j) (o.elements Unsigned (e.with_computed at by x s)) z g in
        subst (TypedHolds P) c.is (stands, hold_both P (vector_bytes x) (computed_bytes s) h t)
    arithmetic_holds numbers op by (o.computed s) (o.elements k y) z h t g =
        let c = ruled numbers (is_number k) (o.elements Unsigned (e.computed_with at by s y)) z g in
        subst (TypedHolds P) c.is (stands, hold_both P (computed_bytes s) (vector_bytes y) h t)
    arithmetic_holds numbers op by x y z h t g = integral_holds op x y z h t g

    -- ---- relations

    compares_holds : (op : Cmp) (x y z : Typed) → TypedHolds P x → TypedHolds P y → compares at op x y ≡ Some z → TypedHolds P z
    compares_holds op x y z h t g =
        let a = comes (as_computed x) (λ a. as_computed y >>= λ b. Some (o.truth (e.computed_compared at op a b))) z g in
        let b = comes (as_computed y) (λ b. Some (o.truth (e.computed_compared at op a.value b))) z a.rest in
        known (o.truth (e.computed_compared at op a.value b.value)) z b.rest
        (stands, hold_both P (computed_bytes a.value) (computed_bytes b.value) (as_computed_holds x a.value h a.is) (as_computed_holds y b.value t b.is))

    -- a test of two values, such as equality or its negation
    abbrev Compares : (Value → Value → Test) → Type 0
    Compares same = (x y : Value) → test_bytes (same x y) ≡ at ∷ (value_bytes x ++ value_bytes y)

    compared_holds : (same : Value → Value → Test) → Compares same → (x y : Value) → Hold P (value_bytes x) → Hold P (value_bytes y) → Hold P (test_bytes (same x y))
    compared_holds same c x y h t = subst (Hold P) (sym (c x y)) (stands, hold_both P (value_bytes x) (value_bytes y) h t)

    equal_holds : (op : Cmp) (same : Value → Value → Test) → Compares same → (x y : Vector) (k : ElementKind) → Hold P (vector_bytes x) → Hold P (vector_bytes y)
        → TypedHolds P (equal_by at op same x y k)
    equal_holds op same c x y Unsigned h t = two x y h t
    equal_holds op same c x y _ h t = compared_holds same c (e.Value.elements x) (e.Value.elements y) h t

    -- an aggregate beside a vector
    beside_holds : (k : ElementKind) (p : ℕ) (es : TypedElements) (y : Vector) → P p × ElementsHold P es → beside_vector k p es ≡ Some y → Hold P (vector_bytes y)
    beside_holds k p es y h g = let v = kept (o.is_vector k) _ y g in aggregate_holds P k p None es y h.0 tt h.1 v.1

    equality_holds : (op : Cmp) (same : Value → Value → Test) → Compares same → (x y z : Typed) → TypedHolds P x → TypedHolds P y → equality at op same x y ≡ Some z
        → TypedHolds P z
    equality_holds op same c (o.integer s) (o.integer r) z h t g =
        known (integers_compared at op s r) z g (stands, hold_both P (static_bytes s) (static_bytes r) h t)
    equality_holds op same c (o.elements j x) (o.elements k y) z h t g =
        let f = mapped (equal_by at op same x y) (common_kind j k) z g in
        subst (TypedHolds P) f.is (equal_holds op same c x y f.value h t)
    equality_holds op same c (o.elements Unsigned x) (o.integer s) z h t g =
        known (o.truth (e.compared_to at op x s)) z g (stands, hold_both P (vector_bytes x) (static_bytes s) h t)
    equality_holds op same c (o.integer s) (o.elements Unsigned y) z h t g =
        known (o.truth (e.compared_with at op s y)) z g (stands, hold_both P (static_bytes s) (vector_bytes y) h t)
    equality_holds op same c (o.enumerated d m x) (o.enumerated f n y) z h t g =
        let w = given (d == f) (o.truth (same x y)) z g in
        subst (TypedHolds P) w.is (compared_holds same c x y h t)
    equality_holds op same c (o.elements k x) (o.composite p es) z h t g =
        let f = mapped (λ y. equal_by at op same x y k) (beside_vector k p es) z g in
        subst (TypedHolds P) f.is (equal_holds op same c x f.value k h (beside_holds k p es f.value t f.from))
    equality_holds op same c (o.composite p es) (o.elements k y) z h t g =
        let f = mapped (λ x. equal_by at op same x y k) (beside_vector k p es) z g in
        subst (TypedHolds P) f.is (equal_holds op same c f.value y k (beside_holds k p es f.value h f.from) t)
    equality_holds op same c (o.elements Unsigned x) (o.computed s) z h t g =
        known (o.truth (e.compared_to_computed at op x s)) z g (stands, hold_both P (vector_bytes x) (computed_bytes s) h t)
    equality_holds op same c (o.computed s) (o.elements Unsigned y) z h t g =
        known (o.truth (e.compared_with_computed at op s y)) z g (stands, hold_both P (computed_bytes s) (vector_bytes y) h t)
    equality_holds op same c x y z h t g = compares_holds op x y z h t g

    ordering_holds : (numbers : Bool) (op : Cmp) (x y z : Typed) → TypedHolds P x → TypedHolds P y → ordering numbers at op x y ≡ Some z → TypedHolds P z
    ordering_holds numbers op (o.integer s) (o.integer r) z h t g =
        known (integers_compared at op s r) z g (stands, hold_both P (static_bytes s) (static_bytes r) h t)
    ordering_holds numbers op (o.elements j x) (o.elements k y) z h t g =
        let c = ruled numbers (are_numbers j k) (o.truth (e.Test.compared at op x y)) z g in
        subst (TypedHolds P) c.is (two x y h t)
    ordering_holds numbers op (o.elements j x) (o.integer s) z h t g =
        let c = ruled numbers (is_number j) (o.truth (e.compared_to at op x s)) z g in
        subst (TypedHolds P) c.is (stands, hold_both P (vector_bytes x) (static_bytes s) h t)
    ordering_holds numbers op (o.integer s) (o.elements k y) z h t g =
        let c = ruled numbers (is_number k) (o.truth (e.compared_with at op s y)) z g in
        subst (TypedHolds P) c.is (stands, hold_both P (static_bytes s) (vector_bytes y) h t)
    ordering_holds numbers op (o.elements j x) (o.computed s) z h t g =
        let c = ruled numbers (is_number j) (o.truth (e.compared_to_computed at op x s)) z g in
        subst (TypedHolds P) c.is (stands, hold_both P (vector_bytes x) (computed_bytes s) h t)
    ordering_holds numbers op (o.computed s) (o.elements k y) z h t g =
        let c = ruled numbers (is_number k) (o.truth (e.compared_with_computed at op s y)) z g in
        subst (TypedHolds P) c.is (stands, hold_both P (computed_bytes s) (vector_bytes y) h t)
    ordering_holds numbers op x y z h t g = compares_holds op x y z h t g

    operated_holds : (numbers : Bool) (by : Operator) (x y z : Typed) → TypedHolds P x → TypedHolds P y → operated numbers at by x y ≡ Some z → TypedHolds P z
    operated_holds numbers op.Equal x y z h t g = equality_holds _ (e.alike at) (λ x y. refl) x y z h t g
    operated_holds numbers op.NotEqual x y z h t g = equality_holds _ (e.unlike at) (λ x y. refl) x y z h t g
    operated_holds numbers op.Less x y z h t g = ordering_holds numbers _ x y z h t g
    operated_holds numbers op.LessEqual x y z h t g = ordering_holds numbers _ x y z h t g
    operated_holds numbers op.Greater x y z h t g = ordering_holds numbers _ x y z h t g
    operated_holds numbers op.GreaterEqual x y z h t g = ordering_holds numbers _ x y z h t g
    operated_holds numbers op.Add x y z h t g = arithmetic_holds numbers _ _ x y z h t g
    operated_holds numbers op.Subtract x y z h t g = arithmetic_holds numbers _ _ x y z h t g
    operated_holds numbers op.Concatenate x y z h t g = concatenated_holds x y z h t g
    operated_holds numbers op.Multiply x y z h t g = arithmetic_holds numbers _ _ x y z h t g
    operated_holds numbers op.Divide x y z h t g = integral_holds _ x y z h t g
    operated_holds numbers op.Modulo x y z h t g = integral_holds _ x y z h t g
    operated_holds numbers op.Remainder x y z h t g = integral_holds _ x y z h t g
    operated_holds numbers _ x y z h t g = logical_holds _ x y z h t g

    -- = and /= of truths
    related_holds : (by : Operator) (x y z : Typed) → TypedHolds P x → TypedHolds P y → truths_related by x y ≡ Some z → TypedHolds P z
    related_holds op.Equal (o.truth s) (o.truth r) z h t g = known (o.truth (both Xnor s r)) z g (both_hold Xnor s r h t)
    related_holds op.NotEqual (o.truth s) (o.truth r) z h t g = known (o.truth (both Xor s r)) z g (both_hold Xor s r h t)
    related_holds by x y z h t g = absurd cc

    -- an operator, with its right operand as it stands beside the left one, in either language
    pub binary_holds : (language : Language) (numbers : Bool) (by : Operator) (x y w z : Typed) → TypedHolds P x → TypedHolds P y → TypedHolds P w
        → option_or (operated numbers at by x w) (wider language (truths_related by x y)) ≡ Some z → TypedHolds P z
    binary_holds language numbers by x y w z h t f g =
        of_either (TypedHolds P) (operated numbers at by x w) (wider language (truths_related by x y)) z (λ z e. operated_holds numbers by x w z h f e)
        (λ z e. related_holds by x y z h t (wider_is language (truths_related by x y) z e)) g
