use Rattle.std.proofs.Common.{ℕ, List, ◌++◌, arith, sym, ap, ap₂, take, drop, take-add, ◌∙◌}
use Rattle.rtl_net_groups.proofs.Lanes.{same_from, others_from}
use Rattle.rtl_net_groups.proofs.comparing.alike_lanes.Goals as goal

pub returns-then-are_different-clause-otherwise : goal.returns-then-are_different-clause-otherwise
returns-then-are_different-clause-otherwise g c =
    let at = c.loop-at.at in
    λ e. others_from _ _ (sym c.if-are_different.true ∙ c.are_different.ensures) (ap (λ (xs : List ℕ). take g.row.LANES (drop at xs)) e)

pub loop-at-preserved : goal.loop-at-preserved
loop-at-preserved g c =
    let old = c.args.old.now in
    let new = c.args.new.now in
    let at = c.loop-at.at in (
      take-add at g.row.LANES old
          ∙ ap₂ (λ xs ys. xs ++ ys) c.loop-at.invariant.0 (same_from _ _ (sym c.if-are_different.false ∙ c.are_different.ensures))
          ∙ sym (take-add at g.row.LANES new),
      omega (arith, c.loop-at-test.true, c.loop-at.invariant.1),
    )
