use Rattle.std.proofs.Common.{◌≡◌, ℕ, suc, ◌+◌, List, [], ◌∷◌, ◌++◌, ap, sym, ◌∙◌, arith}
use Rattle.std.specs.List.{range_with_len}
use Rattle.rtl_looks.proofs.Shifting.{range_more}
use Rattle.rtl_looks.proofs.names.run_of.Goals as goal

pub loop-place-preserved : goal.loop-place-preserved
loop-place-preserved c =
    let l = c.loop-place in
    let next : suc l.place ≡ l.place + 1 = omega arith in
    c.in_ok-push.ensures.items ∙ ap (λ (xs : List ℕ). xs ++ (c.args.first + l.place) ∷ []) l.invariant ∙ sym (range_more c.args.first l.place) ∙ ap (range_with_len c.args.first) next
