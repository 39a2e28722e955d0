use Rattle.std.proofs.Common.{◌++◌, ◌∷◌, [], List, sym, ap, ◌∙◌, map, arith, append_assoc}
use Rattle.std.specs.List.{range_with_len}
use Rattle.std.proofs.lemmas.List.FromFn.{map-range_with_len_more}
use Rattle.rtl_check.specs.declared.variables.VariableElement.{VariableElement}
use Rattle.rtl_check.specs.Places.{place_in}
use Rattle.rtl_check.proofs.variables.push_places.Goals as goal

pub loop-place-preserved : goal.loop-place-preserved
loop-place-preserved c =
    let l = c.loop-place in
    let v = c.args.variable in
    let old = c.args.places.now.items in
    c.in_ok-push.ensures.items ∙ (ap (λ (ps : List VariableElement). ps ++ place_in v l.place ∷ []) l.invariant
    ∙ (append_assoc old (map (place_in v) (range_with_len 0 l.place)) (place_in v l.place ∷ [])
    ∙ ap (λ (ps : List VariableElement). old ++ ps) (sym (map-range_with_len_more (place_in v) 0 l.place l.place (omega arith)))))
