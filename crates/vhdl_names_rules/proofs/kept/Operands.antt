-- Operands that an operator takes break no rule (IEEE 1076-2008, clause 9.2).
use Rattle.std.proofs.Common.{◌≡◌, ℕ, Bool, Option, Some, None, refl, ap, sym, subst, ◌∙◌}
use Rattle.std.specs.Option.{option_or}
use Rattle.vhdl_lexer.specs.declared.language.Language.{Language}
use Rattle.vhdl_lexer.specs.declared.language.Language.TheVariants.{Profile, Wide}
use Rattle.vhdl_values.specs.declared.kinds.Cmp.{Cmp}
use Rattle.vhdl_values.specs.declared.kinds.Cmp.TheVariants.{Eq, Ne}
use Rattle.vhdl_values.specs.declared.kinds.Logic.{Logic}
use Rattle.vhdl_tree.specs.declared.operator.Operator.{Operator}
use Rattle.vhdl_tree.specs.declared.operator.Operator.TheVariants as op
use Rattle.vhdl_tree.specs.Tree as t
use Rattle.vhdl_tree.specs.Tree.{Expr}
use Rattle.vhdl_names_rules.specs.declared.kind.ElementKind.{ElementKind}
use Rattle.vhdl_names_rules.specs.declared.kind.ElementKind.TheVariants.{Element}
use Rattle.vhdl_names_rules.specs.declared.operator.Arithmetic.{Arithmetic}
use Rattle.vhdl_names_rules.specs.declared.operator.Numeric.{Numeric}
use Rattle.vhdl_names_rules.specs.declared.fault.NameProblem.TheVariants.{TypeMismatch}
use Rattle.vhdl_names_rules.specs.units.Expressions as u
use Rattle.vhdl_names_rules.specs.units.Expressions.{Test, Value, Vector}
use Rattle.vhdl_names_rules.specs.Types as types
use Rattle.vhdl_names_rules.specs.Types.{TypedElements}
use Rattle.vhdl_names_rules.specs.Operators as o
use Rattle.vhdl_names_rules.specs.Rules.{wider}
use Rattle.vhdl_names_rules.specs.Operators.{Typed, is_vector, integral, truths_related, operated, logical, concatenated, arithmetic, ordering, equality, beside_vector}
use Rattle.vhdl_names_rules.specs.Expressions.{enclosed, beside}
use Rattle.vhdl_names_rules.specs.problems.Broken.{◌▸◌, unless}
use Rattle.vhdl_names_rules.specs.problems.Expressions.{is_equality, beside_operand, operand}
use Rattle.vhdl_names_rules.proofs.laws.Rules.{kept}
use Rattle.vhdl_names_rules.proofs.Telling.{IsKept, both_kept, unless_kept}
use Rattle.vhdl_names_rules.proofs.kept.Keeping.{nothing_kept, mapped}
use Rattle.vhdl_names_rules.proofs.kept.Aggregates.{aggregate_kept}

-- an aggregate is one of = and /= alone
no_logical : (at : ℕ) (l : Logic) (x : Typed) (p : ℕ) (es : TypedElements) (z : Typed) → logical at l x (types.composite p es) ≡ Some z → ⊥
no_logical at l (o.elements j x) p es z h = cc
no_logical at l (o.truth x) p es z h = cc
no_logical at l x p es z h = cc

no_joined : (at : ℕ) (x : Typed) (p : ℕ) (es : TypedElements) (z : Typed) → concatenated at x (types.composite p es) ≡ Some z → ⊥
no_joined at (o.elements j x) p es z h = cc
no_joined at x p es z h = cc

no_integral : (at : ℕ) (a : Arithmetic) (x : Typed) (p : ℕ) (es : TypedElements) (z : Typed) → integral at a x (types.composite p es) ≡ Some z → ⊥
no_integral at a (o.integer s) p es z h = cc
no_integral at a x p es z h = cc

no_arithmetic : (numbers : Bool) (at : ℕ) (a : Arithmetic) (n : Numeric) (x : Typed) (p : ℕ) (es : TypedElements) (z : Typed) → arithmetic numbers at a n x (types.composite p es) ≡ Some z → ⊥
no_arithmetic numbers at a n (o.integer s) p es z h = cc
no_arithmetic numbers at a n (o.elements j x) p es z h = cc
no_arithmetic numbers at a n x p es z h = cc

no_ordering : (numbers : Bool) (at : ℕ) (c : Cmp) (x : Typed) (p : ℕ) (es : TypedElements) (z : Typed) → ordering numbers at c x (types.composite p es) ≡ Some z → ⊥
no_ordering numbers at c (o.integer s) p es z h = cc
no_ordering numbers at c (o.elements j x) p es z h = cc
no_ordering numbers at c x p es z h = cc

beside_kept : (k : ElementKind) (p : ℕ) (es : TypedElements) (x v : Vector) → beside_vector k p es ≡ Some v → IsKept (beside_operand p es (o.elements k x))
beside_kept k p es x v h =
    let a = kept (is_vector k) _ v h in
    both_kept _ _ (unless_kept TypeMismatch p (is_vector k) a.0) (aggregate_kept k p None es v a.1)

equal_left : (at : ℕ) (c : Cmp) (same : Value → Value → Test) (p : ℕ) (es : TypedElements) (w z : Typed) → equality at c same (types.composite p es) w ≡ Some z → IsKept (beside_operand p es w)
equal_left at c same p es (o.elements k y) z h = let v = mapped _ (beside_vector k p es) z h in beside_kept k p es y v.value v.from
equal_left at c same p es w z h = absurd cc

equal_right : (at : ℕ) (c : Cmp) (same : Value → Value → Test) (x : Typed) (p : ℕ) (es : TypedElements) (z : Typed) → equality at c same x (types.composite p es) ≡ Some z → IsKept (beside_operand p es x)
equal_right at c same (o.elements k x) p es z h = let v = mapped _ (beside_vector k p es) z h in beside_kept k p es x v.value v.from
equal_right at c same x p es z h = absurd cc

left_kept : (numbers : Bool) (at : ℕ) (q : Operator) (p : ℕ) (es : TypedElements) (w z : Typed) → operated numbers at q (types.composite p es) w ≡ Some z
    → IsKept (unless TypeMismatch p (is_equality q) ▸ beside_operand p es w)
left_kept numbers at op.Equal p es w z h = both_kept _ _ nothing_kept (equal_left at Eq (u.alike at) p es w z h)
left_kept numbers at op.NotEqual p es w z h = both_kept _ _ nothing_kept (equal_left at Ne (u.unlike at) p es w z h)
left_kept numbers at q p es w z h = absurd cc

right_kept : (numbers : Bool) (at : ℕ) (q : Operator) (x : Typed) (p : ℕ) (es : TypedElements) (z : Typed) → operated numbers at q x (types.composite p es) ≡ Some z
    → IsKept (unless TypeMismatch p (is_equality q) ▸ beside_operand p es x)
right_kept numbers at op.Equal x p es z h = both_kept _ _ nothing_kept (equal_right at Eq (u.alike at) x p es z h)
right_kept numbers at op.NotEqual x p es z h = both_kept _ _ nothing_kept (equal_right at Ne (u.unlike at) x p es z h)
right_kept numbers at op.And x p es z h = absurd (no_logical at _ x p es z h)
right_kept numbers at op.Or x p es z h = absurd (no_logical at _ x p es z h)
right_kept numbers at op.Xor x p es z h = absurd (no_logical at _ x p es z h)
right_kept numbers at op.Xnor x p es z h = absurd (no_logical at _ x p es z h)
right_kept numbers at op.Nand x p es z h = absurd (no_logical at _ x p es z h)
right_kept numbers at op.Nor x p es z h = absurd (no_logical at _ x p es z h)
right_kept numbers at op.Less x p es z h = absurd (no_ordering numbers at _ x p es z h)
right_kept numbers at op.LessEqual x p es z h = absurd (no_ordering numbers at _ x p es z h)
right_kept numbers at op.Greater x p es z h = absurd (no_ordering numbers at _ x p es z h)
right_kept numbers at op.GreaterEqual x p es z h = absurd (no_ordering numbers at _ x p es z h)
right_kept numbers at op.Add x p es z h = absurd (no_arithmetic numbers at _ _ x p es z h)
right_kept numbers at op.Subtract x p es z h = absurd (no_arithmetic numbers at _ _ x p es z h)
right_kept numbers at op.Concatenate x p es z h = absurd (no_joined at x p es z h)
right_kept numbers at op.Multiply x p es z h = absurd (no_arithmetic numbers at _ _ x p es z h)
right_kept numbers at op.Divide x p es z h = absurd (no_integral at _ x p es z h)
right_kept numbers at op.Modulo x p es z h = absurd (no_integral at _ x p es z h)
right_kept numbers at op.Remainder x p es z h = absurd (no_integral at _ x p es z h)

-- what stands behind an operand in parentheses is of its kind
enclosed_same : (p : ℕ) (es : TypedElements) (y : Typed) → beside_operand p es (enclosed y) ≡ beside_operand p es y
enclosed_same p es (o.elements Element (u.character v)) = refl
enclosed_same p es y = refl

beside_same : (p : ℕ) (es : TypedElements) (d : Expr) (y : Typed) → beside_operand p es (beside d y) ≡ beside_operand p es y
beside_same p es (t.parens at e) y = enclosed_same p es y
beside_same p es (t.qualified n at xs) y = enclosed_same p es y
beside_same p es d y = refl

beside_composite : (d : Expr) (p : ℕ) (es : TypedElements) → beside d (types.composite p es) ≡ types.composite p es
beside_composite (t.parens at e) p es = refl
beside_composite (t.qualified n at xs) p es = refl
beside_composite d p es = refl

first_operated : (numbers : Bool) (at : ℕ) (q : Operator) (d : Expr) (x y z : Typed) → operated numbers at q x (beside d y) ≡ Some z → IsKept (operand q y x)
first_operated numbers at q d (types.composite p es) y z h =
    subst (λ b. IsKept (unless TypeMismatch p (is_equality q) ▸ b)) (beside_same p es d y) (left_kept numbers at q p es (beside d y) z h)
first_operated numbers at q d x y z h = nothing_kept

second_operated : (numbers : Bool) (at : ℕ) (q : Operator) (d : Expr) (x y z : Typed) → operated numbers at q x (beside d y) ≡ Some z → IsKept (operand q x y)
second_operated numbers at q d x (types.composite p es) z h = right_kept numbers at q x p es z (ap (operated numbers at q x) (sym (beside_composite d p es)) ∙ h)
second_operated numbers at q d x y z h = nothing_kept

-- nor is one an operand of a relation of truths
record Operands (q : Operator) (x y : Typed) : Type 0 where
  first : IsKept (operand q y x)
  second : IsKept (operand q x y)

related : (q : Operator) (x y z : Typed) → truths_related q x y ≡ Some z → Operands q x y
related op.Equal (o.truth s) (o.truth t) z h = record { first = nothing_kept; second = nothing_kept }
related op.NotEqual (o.truth s) (o.truth t) z h = record { first = nothing_kept; second = nothing_kept }
related q x y z h = absurd cc

operands_kept : (language : Language) (numbers : Bool) (at : ℕ) (q : Operator) (d : Expr) (x y z : Typed)
    → option_or (operated numbers at q x (beside d y)) (wider language (truths_related q x y)) ≡ Some z → Operands q x y
operands_kept language numbers at q d x y z h = by (operated numbers at q x (beside d y)) refl language h
  where
    by : (a : Option Typed) → operated numbers at q x (beside d y) ≡ a → (language : Language) → option_or a (wider language (truths_related q x y)) ≡ Some z
        → Operands q x y
    by (Some w) e language h = record { first = first_operated numbers at q d x y w e; second = second_operated numbers at q d x y w e }
    by None e Wide h = related q x y z h
    by None e Profile h = absurd cc

pub first_kept : (language : Language) (numbers : Bool) (at : ℕ) (q : Operator) (d : Expr) (x y z : Typed)
    → option_or (operated numbers at q x (beside d y)) (wider language (truths_related q x y)) ≡ Some z → IsKept (operand q y x)
first_kept language numbers at q d x y z h = (operands_kept language numbers at q d x y z h).first

pub second_kept : (language : Language) (numbers : Bool) (at : ℕ) (q : Operator) (d : Expr) (x y z : Typed)
    → option_or (operated numbers at q x (beside d y)) (wider language (truths_related q x y)) ≡ Some z → IsKept (operand q x y)
second_kept language numbers at q d x y z h = (operands_kept language numbers at q d x y z h).second
