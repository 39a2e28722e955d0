use Rattle.std.proofs.Common.{ℕ, List, ◌+◌, ◌++◌, [], ◌∷◌, map, sym, ap, ◌∙◌}
use Rattle.std.specs.List.{range_with_len}
use Rattle.std.proofs.lemmas.List.{map-append}
use Rattle.rtl_kept_bodies.specs.Steps.{place_at}
use Rattle.rtl_kept_bodies.proofs.Ranks.{range_more}
use Rattle.rtl_kept_bodies.proofs.reset.Places.of_run.Goals as goal

pub loop-k-preserved : goal.loop-k-preserved
loop-k-preserved c =
    let l = c.loop-k in
    let f = place_at c.args.self.now in
    c.in_ok-push.ensures.ok ∙ ap (λ (xs : List ℕ). xs ++ c.of.result ∷ []) l.invariant
    ∙ ap (λ (x : ℕ). map f (range_with_len c.args.first l.k) ++ x ∷ []) c.of.ensures
    ∙ sym (ap (map f) (range_more c.args.first l.k) ∙ map-append f (range_with_len c.args.first l.k) ((c.args.first + l.k) ∷ []))
