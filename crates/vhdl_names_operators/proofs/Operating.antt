-- Operators on numbers, by the numbers that operands are.
use Rattle.std.proofs.Common.{◌≡◌, ℕ, Bool, true, Option, Some, refl, sym}
use Rattle.vhdl_values.specs.declared.kinds.Cmp.{Cmp}
use Rattle.vhdl_names_rules.specs.declared.operator.Arithmetic.{Arithmetic}
use Rattle.vhdl_names_rules.specs.declared.operator.Numeric.{Numeric}
use Rattle.vhdl_names_rules.specs.Rules.{◌>>=◌, ◌>>◌, met, then_some}
use Rattle.vhdl_names_rules.specs.Operators as o
use Rattle.vhdl_names_rules.specs.Operators.{Typed, integer, computed, elements}
use Rattle.vhdl_names_operators.specs.Steps.{numbers_of, calculation, comparing}

-- what is made of a thing that two conditions give
of_both : {A B : Type 0} (f : A → Option B) (a b : Bool) (x : A) (y : B) → f x ≡ Some y → (met a >> then_some b y) ≡ ((met a >> then_some b x) >>= f)
of_both f true true x y h = sym h
of_both f a b x y h = refl

pub arithmetic_is : (numbers : Bool) (at : ℕ) (op : Arithmetic) (by : Numeric) (x y : Typed) → o.arithmetic numbers at op by x y ≡ (numbers_of numbers x y >>= calculation at op by)
arithmetic_is numbers at op by (elements j x) (elements k y) = of_both (calculation at op by) numbers (o.are_numbers j k) _ _ refl
arithmetic_is numbers at op by (elements j x) (integer t) = of_both (calculation at op by) numbers (o.is_number j) _ _ refl
arithmetic_is numbers at op by (integer s) (elements k y) = of_both (calculation at op by) numbers (o.is_number k) _ _ refl
arithmetic_is numbers at op by (elements j x) (computed t) = of_both (calculation at op by) numbers (o.is_number j) _ _ refl
arithmetic_is numbers at op by (computed s) (elements k y) = of_both (calculation at op by) numbers (o.is_number k) _ _ refl
arithmetic_is numbers at op by x y = refl

pub ordering_is : (numbers : Bool) (at : ℕ) (op : Cmp) (x y : Typed) → o.ordering numbers at op x y ≡ (numbers_of numbers x y >>= comparing at op)
ordering_is numbers at op (elements j x) (elements k y) = of_both (comparing at op) numbers (o.are_numbers j k) _ _ refl
ordering_is numbers at op (elements j x) (integer t) = of_both (comparing at op) numbers (o.is_number j) _ _ refl
ordering_is numbers at op (integer s) (elements k y) = of_both (comparing at op) numbers (o.is_number k) _ _ refl
ordering_is numbers at op (elements j x) (computed t) = of_both (comparing at op) numbers (o.is_number j) _ _ refl
ordering_is numbers at op (computed s) (elements k y) = of_both (comparing at op) numbers (o.is_number k) _ _ refl
ordering_is numbers at op x y = refl
