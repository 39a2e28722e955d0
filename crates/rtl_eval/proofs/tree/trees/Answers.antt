use Rattle.std.proofs.Common.{ℕ, List, [], ◌∷◌, ◌++◌, sym, ap, ◌∙◌, arith}
use Rattle.std.proofs.lemmas.List.FromFn.{map-range_with_len_more}
use Rattle.rtl_eval.specs.Trees.{ProcessOf}
use Rattle.rtl_eval.proofs.tree.trees.Goals as goal

pub loop-number-preserved : goal.loop-number-preserved
loop-number-preserved c =
    let k = c.loop-number.number in
    c.in_ok-push.ensures.items ∙ ap (λ (ts : List ProcessOf). ts ++ record { net = c.args.net.now; number = k } ∷ []) c.loop-number.invariant
    ∙ sym (map-range_with_len_more (λ (number : ℕ). record { net = c.args.net.now; number = number }) 0 k k (omega arith))
