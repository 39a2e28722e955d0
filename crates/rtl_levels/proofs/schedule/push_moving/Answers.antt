use Rattle.std.proofs.Common.{ℕ, cond, List, [], ◌∷◌, ◌++◌, get_or, map, take, sym, ap, ◌∙◌}
use Rattle.std.specs.List.{filter}
use Rattle.std.proofs.lemmas.List.{append-nil, append_assoc, map_push}
use Rattle.std.proofs.lemmas.List.Elements.{filter_more}
use Rattle.rtl_levels.specs.Scheduled.{beside_level, kind_moves}
use Rattle.rtl_levels.proofs.schedule.push_moving.Goals as goal
use Rattle.rtl_levels.proofs.schedule.push_moving.Goals.{then-moves+in_ok-push, else-moves}

pub loop-net-preserved : goal.loop-net-preserved
loop-net-preserved c =
    let nets = c.args.nets.now in
    let wakes = c.args.wakes.now in
    let i = c.loop-net.net-index in
    let n = get_or wakes i 0 in
    let old = c.args.moving.now.items in
    let kept = filter (kind_moves c.args.kind) (take i wakes) in
    let more = filter_more (kind_moves c.args.kind) wakes i 0 c.loop-net-test.true in
    elim c.if-moves.branch [
      | then-moves+in_ok-push w ↦
          rw (w.moving-is, w.in_ok-push.ensures.items)
          (ap (λ (xs : List (ℕ × ℕ)). xs ++ beside_level nets n ∷ []) c.loop-net.invariant
          ∙ append_assoc old (map (beside_level nets) kept) (beside_level nets n ∷ [])
          ∙ ap (λ (xs : List (ℕ × ℕ)). old ++ xs) (sym (map_push (beside_level nets) kept n))
          ∙ ap (λ b. old ++ map (beside_level nets) (kept ++ cond b (n ∷ []) [])) (sym (sym c.moves.ensures ∙ w.if-moves.true))
          ∙ ap (λ (xs : List ℕ). old ++ map (beside_level nets) xs) (sym more))
      | else-moves w ↦
          rw (w.moving-is)
          (c.loop-net.invariant
          ∙ ap (λ (xs : List ℕ). old ++ map (beside_level nets) xs) (sym (append-nil kept))
          ∙ ap (λ b. old ++ map (beside_level nets) (kept ++ cond b (n ∷ []) [])) (sym (sym c.moves.ensures ∙ w.if-moves.false))
          ∙ ap (λ (xs : List ℕ). old ++ map (beside_level nets) xs) (sym more))
    ]
