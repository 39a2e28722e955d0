use Rattle.std.proofs.Common.{◌||◌, nat_lt, length, drop, Option, Some, ap, sym, ◌∙◌}
use Rattle.std.specs.Prelude.{is_some}
use Rattle.rtl_mixed_reasons.specs.declared.reason.Reason.{Reason}
use Rattle.rtl_mixed_reasons.specs.Reasons.{other_before, tests_of}
use Rattle.rtl_mixed_reasons.proofs.Branching.{own-is, told_by}
use Rattle.rtl_mixed_reasons.proofs.body.branches_reason.Goals as goal

pub returns-in-Some : goal.returns-in-Some
returns-in-Some c =
    sym (own-is c.args.net.now c.args.found c.args.otherwise.now c.args.branches.now ∙ ap (λ (r : Option Reason). told_by c.args.found.at r (other_before c.args.found.at c.args.found.before (tests_of c.args.branches.now))
    (nat_lt 1 (length (drop c.args.found.before (tests_of c.args.branches.now))) || is_some c.args.otherwise.now)) (sym c.reset_reason.ensures ∙ c.in-Some.is))

pub returns-in-Some-other_before : goal.returns-in-Some-other_before
returns-in-Some-other_before c =
    sym (own-is c.args.net.now c.args.found c.args.otherwise.now c.args.branches.now
    ∙ (λ k. told_by c.args.found.at ((sym c.reset_reason.ensures ∙ c.in_default.is) k) ((sym c.other_before.ensures ∙ c.in-Some-other_before.is) k)
    (nat_lt 1 (length (drop c.args.found.before (tests_of c.args.branches.now))) || is_some c.args.otherwise.now)))

pub returns-then-stands_behind : goal.returns-then-stands_behind
returns-then-stands_behind c =
    ap Some c.plain.ensures
    ∙ sym (own-is c.args.net.now c.args.found c.args.otherwise.now c.args.branches.now
    ∙ (λ k. told_by c.args.found.at ((sym c.reset_reason.ensures ∙ c.in_default.is) k) ((sym c.other_before.ensures ∙ c.in_default-other_before.is) k) ((sym c.stands_behind.ensures ∙ c.if-stands_behind.true) k)))

pub returns : goal.returns
returns c =
    sym (own-is c.args.net.now c.args.found c.args.otherwise.now c.args.branches.now
    ∙ (λ k. told_by c.args.found.at ((sym c.reset_reason.ensures ∙ c.in_default.is) k) ((sym c.other_before.ensures ∙ c.in_default-other_before.is) k) ((sym c.stands_behind.ensures ∙ c.if-stands_behind.false) k)))
