use Rattle.std.proofs.Common.{◌<◌, length, ap, ◌∙◌, arith}
use Rattle.std.proofs.Math.ListN.{set}
use Rattle.std.proofs.lemmas.List.Edits.{map_over_more}
use Rattle.rtl_lost_integers.specs.Watching.{seen}
use Rattle.rtl_lost_integers.specs.declared.integer.Integer.{Integer}
use Rattle.rtl_lost_integers.proofs.Looking.{found_more, unchanged}
use Rattle.rtl_lost_integers.proofs.integer.look.Goals as goal

pub loop-place-preserved : goal.loop-place-preserved
loop-place-preserved c =
    let l = c.loop-place in
    let values = c.args.values.now in
    let xs = c.args.integers.now.items in
    let ys = l.integers.items in
    let x = c.index_mut-integer.result.now in
    let look = c.look-is_lost in
    let there : l.place < length xs = omega arith in
    record {
      looked = ap (λ (y : Integer). set ys l.place y) look.ensures.seen ∙ map_over_more (seen values) xs ys l.place x there l.invariant.looked c.index_mut-integer.ensures.value;
      found =
          found_more values xs l.place x l.first _ _ _ look.result there (c.index_mut-integer.ensures.value ∙ unchanged (seen values) xs ys l.place x there l.invariant.looked)
          c.first_or-first.ensures look.ensures.lost (ap (λ (y : Integer). y.signal) look.ensures.seen) l.invariant.found;
    }
