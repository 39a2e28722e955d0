use Rattle.std.proofs.Common.{ℕ, ◌+◌, List, [], ◌∷◌, ◌++◌, ap, sym, ◌∙◌}
use Rattle.rtl_body_facts.proofs.EveryPath.{range_more}
use Rattle.rtl_outside_ranges.proofs.lists.run_of.Goals as goal

pub loop-i-preserved : goal.loop-i-preserved
loop-i-preserved c =
    let l = c.loop-i in
    c.in_ok-push.ensures.items ∙ ap (λ (xs : List ℕ). xs ++ (c.args.first + l.i) ∷ []) l.invariant ∙ sym (range_more c.args.first l.i)
