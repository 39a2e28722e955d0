use Rattle.std.proofs.Common.{◌≡◌, true, false, sym, ◌∙◌}
use Rattle.rtl_check.proofs.listed_clocks.are_clocks.Goals as goal

pub returns-then-not-rise : goal.returns-then-not-rise
returns-then-not-rise c = (λ e. absurd cc, λ A. let h : true ≡ false = sym (c.rise.ensures.1 A.rise) ∙ c.if-not-rise.true in cc)

pub returns-then-not-are_tested : goal.returns-then-not-are_tested
returns-then-not-are_tested c =
    (λ e. absurd cc, λ A. let h : true ≡ false = sym (c.are_tested.ensures.1 (λ n edge k. (A.are n edge).0 k)) ∙ c.if-not-are_tested.true in cc)

pub returns : goal.returns
returns c = (
  λ t. record {
    are = λ n edge. (c.are_tested.ensures.0 c.if-not-are_tested.false n edge, λ (p, k). c.are_listed.ensures.0 t p n edge k);
    rise = c.rise.ensures.0 c.if-not-rise.false;
  },
  λ A. c.are_listed.ensures.1 (λ p n edge k. (A.are n edge).1 (p, k)),
)
