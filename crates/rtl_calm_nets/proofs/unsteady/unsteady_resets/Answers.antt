use Rattle.std.proofs.Common.{◌≡◌, Bool, true, false, List, get_or, ap, sym, ◌∙◌}
use Rattle.rtl_net.specs.Core.{core}
use Rattle.rtl_calm_nets.proofs.Judging.{none_marked, unsteady_inner}
use Rattle.rtl_calm_nets.proofs.unsteady.unsteady_resets.Goals as goal

pub returns-then-not-has_inner_reset-clause-each : goal.returns-then-not-has_inner_reset-clause-each
returns-then-not-has_inner_reset-clause-each c = λ p.
    let zeros = c.in_ok-vec.ensures.items_if_clones_equal (λ y e. e) in (
      λ t. (let h : true ≡ false = sym t ∙ ap (λ (xs : List Bool). get_or xs p false) zeros ∙ none_marked _ p in absurd cc),
      λ u. absurd (unsteady_inner (core c.args.net.now) p u (λ inner. (let h : true ≡ false = sym (c.has_inner_reset.ensures.1 inner) ∙ c.if-not-has_inner_reset.true in absurd cc))),
    )
