use Rattle.std.proofs.Common.{◌≡◌, [], ◌∷◌, ◌++◌, get_or, map, ap, sym, ◌∙◌, arith}
use Rattle.std.proofs.lemmas.List.{map_more, take_all}
use Rattle.rtl_levels.specs.Scheduled.{whole_first}
use Rattle.rtl_levels.proofs.wholes.wholes_of.Goals as goal

pub loop-process-init : goal.loop-process-init
loop-process-init c = c.in_ok-wholes.ensures.items

pub of-requires : goal.of-requires
of-requires c = omega (arith, c.loop-process-test.true, c.requires)

pub loop-process-preserved : goal.loop-process-preserved
loop-process-preserved c =
    let cuts = c.args.cuts.now.cuts in
    let k = c.loop-process.process in
    let told : c.whole_first.result ≡ whole_first (get_or cuts k []) = c.whole_first.ensures ∙ ap whole_first c.of.ensures in
    c.in_ok-push.ensures.items ∙ (λ i. c.loop-process.invariant i ++ told i ∷ []) ∙ sym (map_more whole_first cuts k [] (omega (arith, c.loop-process-test.true, c.requires)))

pub returns : goal.returns
returns c =
    let cuts = c.args.cuts.now.cuts in
    c.loop-process.invariant ∙ ap (map whole_first) (take_all c.loop-process.process cuts (omega (arith, c.loop-process-test.false, c.requires)))
