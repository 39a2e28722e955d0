use Rattle.std.proofs.Common.{◌≡◌, ◌<◌, ◌+◌, ℕ, zero, suc, refl, List, [], ◌∷◌, ◌++◌, length, get_or, take, map, sym, ap, ◌∙◌, arith}
use Rattle.std.specs.List.{range_with_len}
use Rattle.std.proofs.lemmas.List.{length-map, take_more, take_all}
use Rattle.rtl_model.proofs.basics.Lists.{get_or-map_within}
use Rattle.rtl_net.specs.declared.process.Variable.{Variable}
use Rattle.rtl_check.specs.declared.variables.VariableElement.{VariableElement}
use Rattle.rtl_check.specs.Places.{place_in, places_from, widths}
use Rattle.rtl_check.proofs.Elements.{places_push}
use Rattle.rtl_check.proofs.variables.places_of.Goals as goal

counted : (ws : List ℕ) (i : ℕ) → i < length ws → 0 + length (take i ws) ≡ i
counted [] i l = absurd (omega arith)
counted (w ∷ ws) zero l = refl
counted (w ∷ ws) (suc i) l = let h = counted ws i (omega arith) in omega arith

pub loop-variable-preserved : goal.loop-variable-preserved
loop-variable-preserved c =
    let vs = c.args.variables.now in
    let ws = widths vs in
    let i = c.loop-variable.variable in
    let x = c.index-variables-variable.result in
    let l : i < length vs = c.loop-variable-test.true in
    let m : i < length ws = rw length-map l in
    let w = length x.starts.items in
    let at : get_or ws i 0 ≡ w = get_or-map_within (λ (v : Variable). length v.starts.items) vs i x 0 l ∙ ap (λ (v : Variable). length v.starts.items) (sym c.index-variables-variable.is) in
    let so_many : 0 + length (take i ws) ≡ i = counted ws i m in
    c.in_ok-push_places.ensures ∙ (ap (λ (n : ℕ). c.loop-variable.places.items ++ map (place_in i) (range_with_len 0 n)) c.len.ensures.value
    ∙ (ap (λ (ps : List VariableElement). ps ++ map (place_in i) (range_with_len 0 w)) c.loop-variable.invariant
    ∙ (ap (λ (k : ℕ). places_from 0 (take i ws) ++ map (place_in k) (range_with_len 0 w)) (sym so_many)
    ∙ (sym (places_push (take i ws) 0 w) ∙ ap (places_from 0) (ap (λ (n : ℕ). take i ws ++ n ∷ []) (sym at) ∙ sym (take_more ws i 0 m))))))

pub returns : goal.returns
returns c = c.loop-variable.invariant ∙ ap (places_from 0) (take_all c.loop-variable.variable (widths c.args.variables.now) (rw length-map c.loop-variable-test.false))
