use Rattle.std.proofs.Common.{◌<◌, [], ◌∷◌, ◌++◌, length, take, sym, ap, ◌∙◌, arith}
use Rattle.std.proofs.lemmas.List.{take_more}
use Rattle.std.proofs.lemmas.Option.{same_Some, slice_get-get_or}
use Rattle.vhdl_values.specs.declared.scalar.Nine.{Nine}
use Rattle.vhdl_expand_numbers.proofs.rows.listed.Goals as goal

pub loop-place-preserved : goal.loop-place-preserved
loop-place-preserved c =
    let values = c.args.values.now in
    let i = c.loop-place.place in
    let x = c.get.result in
    let below : i < length values = omega (arith, c.loop-place-test.true, c.len-place-end.ensures.len) in
    let read = same_Some _ x (sym (slice_get-get_or values i x below) ∙ c.get.ensures) in
    c.in_ok-push.ensures.items ∙ ap (λ vs. vs ++ x ∷ []) c.loop-place.invariant ∙ ap (λ (y : Nine). take i values ++ y ∷ []) (sym read) ∙ sym (take_more values i x below)
