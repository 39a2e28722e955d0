use Rattle.std.proofs.Common.{[], ◌∷◌, ◌++◌, ap, ◌∙◌, arith, append_assoc}
use Rattle.std.specs.Prelude.{replicate}
use Rattle.std.proofs.lemmas.List.{replicate_more}
use Rattle.rtl_vcd_values.proofs.line.push_times.Goals as goal

pub loop-preserved : goal.loop-preserved
loop-preserved c =
    let before = c.args.line.now.items in
    let letter = c.args.letter in
    let done = c.loop.counter in (
      c.push.ensures.items ∙ ap (λ xs. xs ++ letter ∷ []) c.loop.invariant.0
          ∙ append_assoc before (replicate done letter) (letter ∷ []) ∙ ap (λ xs. before ++ xs) (replicate_more done letter),
      omega (arith, c.push.ensures.len, c.loop.invariant.1),
    )
