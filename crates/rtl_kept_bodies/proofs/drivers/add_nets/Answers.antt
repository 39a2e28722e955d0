use Rattle.std.proofs.Common.{List, ℕ, ◌+◌, ◌∷◌, [], ◌++◌, append-nil, append_assoc, sym, ap, ◌∙◌}
use Rattle.std.specs.List.{range_with_len}
use Rattle.rtl_kept_bodies.proofs.Ranks.{range_more}
use Rattle.rtl_kept_bodies.proofs.drivers.add_nets.Goals as goal

pub loop-k-init : goal.loop-k-init
loop-k-init c = sym (append-nil c.args.reads.now.items)

pub loop-k-preserved : goal.loop-k-preserved
loop-k-preserved c =
    let l = c.loop-k in
    let old = c.args.reads.now.items in
    c.in_ok-push.ensures.items ∙ ap (λ (ns : List ℕ). ns ++ (c.args.first + l.k) ∷ []) l.invariant
    ∙ append_assoc old (range_with_len c.args.first l.k) ((c.args.first + l.k) ∷ []) ∙ ap (λ (ns : List ℕ). old ++ ns) (sym (range_more c.args.first l.k))
