use Rattle.std.proofs.Common.{◌≡◌, true, false, inr, sym, ◌∙◌}
use Rattle.rtl_net.specs.Core.{core}
use Rattle.rtl_calm_nets.specs.InnerResets.{HasInnerReset}
use Rattle.rtl_check.proofs.ReportParts.{froms, shown, bound_is}
use Rattle.rtl_check.proofs.Verdicts.{by_processes}
use Rattle.rtl_check.proofs.reported.make_report.Goals as goal

pub returns-then-has_inner_reset : goal.returns-then-has_inner_reset
returns-then-has_inner_reset c =
    let net = core c.args.net.now in
    let levels = c.args.levels.now in
    let from = c.args.from.now in
    let (wide, inner) = c.has_inner_reset.ensures.0 c.if-has_inner_reset.true in
    λ clear. (λ e. absurd cc, λ R. absurd (R.rest.by_processes (wide, inr inner)))

pub returns-then-not-are_levels : goal.returns-then-not-are_levels
returns-then-not-are_levels c =
    let net = core c.args.net.now in
    let levels = c.args.levels.now in
    let from = c.args.from.now in
    let clocks = c.args.clocks.now in
    λ clear. (
      λ e. absurd cc,
      λ R.
          let S = froms net levels from clocks c.args.bound ((c.reports_are_shown.ensures net levels from clocks c.args.bound).0 R) in
          let h : true ≡ false = sym ((c.are_levels.ensures clear).1 S) ∙ c.if-not-are_levels.true in
          cc,
    )

pub returns : goal.returns
returns c =
    let net = core c.args.net.now in
    let levels = c.args.levels.now in
    let from = c.args.from.now in
    let clocks = c.args.clocks.now in
    let most = c.args.bound in
    let law = c.reports_are_shown.ensures net levels from clocks most in
    let outer : HasInnerReset net → ⊥ = λ inner. (let h = sym (c.has_inner_reset.ensures.1 inner) ∙ c.if-has_inner_reset.false in absurd cc) in
    λ clear. (
      λ t.
          let S = (c.are_levels.ensures clear).0 c.if-not-are_levels.false in
          law.1 (shown net levels from clocks most c.greatest_of.result c.greatest_of.ensures (by_processes net outer (c.levels_are_shown.ensures net levels from S.shown).1) S
          (c.are_clocks.ensures.0 c.if-not-are_clocks.false) (c.is_bound.ensures.0 t)),
      λ R. c.is_bound.ensures.1 (bound_is net levels from clocks most c.greatest_of.result c.greatest_of.ensures (law.0 R)),
    )
