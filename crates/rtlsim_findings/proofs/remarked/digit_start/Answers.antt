use Rattle.std.proofs.Common.{◌≡◌, ℕ, ◌≤◌, Bool, true, false, cond, Some, None, length, refl, ap, ◌∙◌, arith}
use Rattle.std.specs.Prelude.{nat_lt}
use Rattle.std.specs.Option.{unwrap_or}
use Rattle.std.specs.List.{position_or_len}
use Rattle.std.proofs.lemmas.Bool.{ltb-false}
use Rattle.std.proofs.lemmas.List.Sums.{prefix_len-le-length}
use Rattle.rtlsim_findings.specs.Remarked.{opens_digit}
use Rattle.rtlsim_findings.proofs.remarked.digit_start.Goals as goal

start_is : (k n : ℕ) (b : Bool) → k ≤ n → nat_lt k n ≡ b → unwrap_or (cond (nat_lt k n) (Some k) None) n ≡ k
start_is k n true l e = ap (λ (b : Bool). unwrap_or (cond b (Some k) None) n) e
start_is k n false l e = let none : n ≡ k = omega (arith, l, ltb-false k n e) in ap (λ (b : Bool). unwrap_or (cond b (Some k) None) n) e ∙ none

pub returns : goal.returns
returns c =
    let name = c.args.name.now in
    let n = length name in
    c.unwrap_or.ensures ∙ ap (λ o. unwrap_or o n) c.opening.ensures ∙ start_is (position_or_len opens_digit name) n _ (prefix_len-le-length _ name) refl
