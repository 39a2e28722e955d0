use mir.Syntax.{w32}
use mir.Val.{SFits, to_z, of_z}
use Rattle.std.proofs.Common.{◌≡◌, ℕ, ℤ, Result, rules, arith, refl, ap, sym, ◌∙◌, subst}
use Rattle.std.specs.Prelude.{◌+ℤ◌}
use Rattle.std.proofs.lemmas.Grind.{common_steps}
use Rattle.vhdl_names_rules.specs.declared.operator.Arithmetic.{Arithmetic}
use Rattle.vhdl_names_rules.specs.declared.operator.Arithmetic.TheVariants.{Add, Subtract, Multiply, Divide, Modulo, Remainder, Power}
use Rattle.vhdl_expand_rules.specs.declared.fault.ElabFault.{ElabFault}
use Rattle.vhdl_expand_rules.specs.Elab.{Elab}
use Rattle.vhdl_expand_rules.specs.Integers.{checked_integer, powered, integer_operation}
use Rattle.vhdl_expand_rules.specs.views.Integers.{Computes}
use Rattle.vhdl_expand_rules.proofs.Modulus.{same_word}
use Rattle.vhdl_expand_rules.proofs.integer.operated.Goals as goal

module _ (at : ℕ) (x y : ℤ) where
  -- what a call gave for the integers behind their bits
  given_by : (f : ℤ → ℤ → Elab ℤ) (r : Result ℤ ElabFault) (o p : Arithmetic) → SFits w32 x → SFits w32 y → o ≡ p → integer_operation at p x y ≡ f x y
      → Computes (f (to_z w32 (of_z w32 x)) (to_z w32 (of_z w32 y))) r → Computes (integer_operation at o x y) r
  given_by f r o p hx hy e is h =
      subst (λ q. Computes q r) (sym (ap (λ q. integer_operation at q x y) e ∙ is))
      (subst (λ z. Computes (f z y) r) (same_word x hx) (subst (λ z. Computes (f (to_z w32 (of_z w32 x)) z) r) (same_word y hy) h))

  -- the operator that it was
  by_operator : (r : Result ℤ ElabFault) (o p : Arithmetic) → o ≡ p → Computes (integer_operation at p x y) r → Computes (integer_operation at o x y) r
  by_operator r o p e h = subst (λ q. Computes (integer_operation at q x y) r) (sym e) h

pub returns-in-Add : goal.returns-in-Add
returns-in-Add c =
    given_by c.args.at c.args.left c.args.right (λ a b. checked_integer c.args.at (a +ℤ b)) c.sum.result _ Add (search rules) (search rules) c.in-Add.is refl c.sum.ensures

pub returns-in-Modulo : goal.returns-in-Modulo
returns-in-Modulo c =
    given_by c.args.at c.args.left c.args.right (integer_operation c.args.at Modulo) c.modulus.result _ Modulo (search rules) (search rules) c.in-Modulo.is refl c.modulus.ensures

pub returns-in-Remainder : goal.returns-in-Remainder
returns-in-Remainder c =
    given_by c.args.at c.args.left c.args.right (integer_operation c.args.at Remainder) c.remainder.result _ Remainder (search rules) (search rules) c.in-Remainder.is refl c.remainder.ensures

pub returns-in-Subtract : goal.returns-in-Subtract
returns-in-Subtract c = by_operator c.args.at c.args.left c.args.right c.within.result _ Subtract c.in-Subtract.is (first_of (search rules, grind (arith, common_steps)))

pub returns-in-Multiply : goal.returns-in-Multiply
returns-in-Multiply c = by_operator c.args.at c.args.left c.args.right c.within-in-Multiply.result _ Multiply c.in-Multiply.is (first_of (search rules, grind (arith, common_steps)))

pub returns-in-Divide : goal.returns-in-Divide
returns-in-Divide c = by_operator c.args.at c.args.left c.args.right c.within-in-Divide.result _ Divide c.in-Divide.is (first_of (search rules, grind (arith, common_steps)))

pub returns-in-Power : goal.returns-in-Power
returns-in-Power c =
    given_by c.args.at c.args.left c.args.right (powered c.args.at) c.power.result _ Power (search rules) (search rules) c.in-Power.is refl c.power.ensures
