use Rattle.std.proofs.Common.{◌≡◌, ℕ, ◌||◌, List, Some, None, length, drop, ap, sym, ◌∙◌}
use Rattle.std.specs.Prelude.{is_some, nat_lt, option_map}
use Rattle.rtl_net.specs.declared.body.Branch.{Branch}
use Rattle.rtl_mixed_reasons.specs.declared.reason.ReasonKind.{ReasonKind}
use Rattle.rtl_mixed_reasons.specs.Reasons.{plain, first_gated, gated_kind, tests_of}
use Rattle.rtl_mixed_reasons.proofs.Branching.{gated-is}
use Rattle.rtl_mixed_reasons.proofs.ifs.gated_if.Goals as goal

pub returns-in_err-before-in-If : goal.returns-in_err-before-in-If
returns-in_err-before-in-If c =
    let i = c.in-If in
    let wide = c.args.wide in
    let none : first_gated 0 (tests_of i.branches.items) ≡ None = sym (c.first_gated.ensures ∙ ap (λ (bs : List Branch). first_gated 0 (tests_of bs)) c.deref.ensures.value) ∙ c.in_err-before-in-If.was in
    c.from_residual.ensures
    ∙ (sym (ap (option_map (λ (before : ℕ). plain (gated_kind wide (nat_lt 1 (length (drop before (tests_of i.branches.items))) || is_some i.otherwise)) i.at)) none)
    ∙ gated-is wide c.args.statement.now i.at i.branches i.otherwise i.is)

pub returns-in_ok-before-in-If : goal.returns-in_ok-before-in-If
returns-in_ok-before-in-If c =
    let i = c.in-If in
    let wide = c.args.wide in
    let before = c.in_ok-before-in-If.before in
    let found : first_gated 0 (tests_of i.branches.items) ≡ Some before = sym (c.first_gated.ensures ∙ ap (λ (bs : List Branch). first_gated 0 (tests_of bs)) c.deref.ensures.value) ∙ c.in_ok-before-in-If.was in
    ap Some (c.plain.ensures ∙ ap (λ (k : ReasonKind). plain k i.at) (c.gated_kind.ensures
    ∙ ap (gated_kind wide) (c.stands_behind-behind.ensures ∙ ap (λ (bs : List Branch). nat_lt 1 (length (drop before (tests_of bs))) || is_some i.otherwise) c.deref-in-If.ensures.value)))
    ∙ (sym (ap (option_map (λ (before : ℕ). plain (gated_kind wide (nat_lt 1 (length (drop before (tests_of i.branches.items))) || is_some i.otherwise)) i.at)) found)
    ∙ gated-is wide c.args.statement.now i.at i.branches i.otherwise i.is)
