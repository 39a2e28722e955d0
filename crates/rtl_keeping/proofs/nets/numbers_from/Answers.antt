use Rattle.std.proofs.Common.{◌∷◌, [], ◌++◌, ◌+◌, ap, sym, ◌∙◌}
use Rattle.rtl_keeping.proofs.Adding.{row_more}
use Rattle.rtl_keeping.proofs.nets.numbers_from.Goals as goal

pub loop-k-preserved : goal.loop-k-preserved
loop-k-preserved c =
    c.in_ok-push.ensures.ok ∙ ap (λ xs. xs ++ (c.args.first + c.loop-k.k) ∷ []) c.loop-k.invariant ∙ sym (row_more c.args.first c.loop-k.k)
