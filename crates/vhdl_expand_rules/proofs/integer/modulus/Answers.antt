use Rattle.std.proofs.Common.{◌≡◌, ℕ, ℤ, Ok, Err, rules, ap, sym, subst, ◌∙◌}
use Rattle.std.specs.Prelude.{int_rem}
use Rattle.std.proofs.lemmas.Result.{err_from_is_err_and}
use Rattle.vhdl_names_rules.specs.declared.operator.Arithmetic.TheVariants.{Modulo}
use Rattle.vhdl_expand_rules.specs.Elab.{Told}
use Rattle.vhdl_expand_rules.specs.Integers.{checked_integer, division_with, modulus, integer_operation}
use Rattle.vhdl_expand_rules.specs.views.Integers.{Computes, with_sign}
use Rattle.vhdl_expand_rules.proofs.Modulus.{same_word, modulus_is, modulus_returns}
use Rattle.vhdl_expand_rules.proofs.integer.modulus.Goals as goal

pub returns : goal.returns
returns c =
    let x = c.args.left in
    let y = c.args.right in
    let r = c.in_ok-remainder.remainder in
    let m = c.in_ok-modulus.modulus in
    let ex = same_word x (search rules) in
    let ey = same_word y (search rules) in
    let er = same_word r (search rules) in
    let em = same_word m (search rules) in
    modulus_returns c.args.at x _ y _ _ r _ m _ ex ey ey er em c.in_ok-remainder.ensures c.in_ok-modulus.ensures

-- with the sign of the divisor it may be refused
modulus_refused : (at : ℕ) (x x' y y' y'' r r' : ℤ) (told : Told) → x' ≡ x → y' ≡ y → y'' ≡ y → r' ≡ r
    → division_with at int_rem x' y' ≡ Ok r → checked_integer at (with_sign y'' r') ≡ Err told → division_with at modulus x y ≡ Err told
modulus_refused at x x' y y' y'' r r' told ex ey ey' er h k =
    ap (λ q. division_with at modulus q y) (sym ex) ∙ ap (λ q. division_with at modulus x' q) (sym ey) ∙ modulus_is at x' y' r h
    ∙ ap (λ q. checked_integer at (with_sign q r)) (ey ∙ sym ey') ∙ ap (λ q. checked_integer at (with_sign y'' q)) (sym er) ∙ k

pub returns-in_err-modulus : goal.returns-in_err-modulus
returns-in_err-modulus c =
    let x = c.args.left in
    let y = c.args.right in
    let r = c.in_ok-remainder.remainder in
    let ex = same_word x (search rules) in
    let ey = same_word y (search rules) in
    let er = same_word r (search rules) in
    let w = err_from_is_err_and c.from_residual-in_err-modulus.result c.from_residual-in_err-modulus.ensures.1 in
    subst (λ q. Computes (integer_operation c.args.at Modulo x y) q) (sym (w.1 ∙ ap (λ e. Err e) w.2))
    (modulus_refused c.args.at x _ y _ _ r _ _ ex ey ey er c.in_ok-remainder.ensures c.in_err-modulus.ensures)
