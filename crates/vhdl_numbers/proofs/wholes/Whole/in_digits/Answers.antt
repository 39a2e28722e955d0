use Rattle.std.proofs.Common.{◌≡◌, ◌-◌, ◌*◌, ◌%◌, ◌^◌, ◌≤◌, length, sym, ap, ◌∙◌, arith, subst}
use Rattle.std.proofs.lemmas.Nat.{one_shl}
use Rattle.vhdl_numbers.proofs.Complement.{number-from_half}
use Rattle.vhdl_numbers.proofs.wholes.Whole.in_digits.Goals as goal

pub returns-else-number-half-clause-number : goal.returns-else-number-half-clause-number
returns-else-number-half-clause-number c digits long same =
    let half : 1 * 2 ^ (c.args.len - 1) % 2 ^ 64 ≡ 2 ^ (length digits - 1) =
    one_shl (c.args.len - 1) 64 (omega arith) ∙ ap (λ n. 2 ^ (n - 1)) (sym long) in
    rw half (number-from_half digits c.args.number (omega arith) same (subst (λ m. m ≤ c.args.number) half c.if-number-half.false))
