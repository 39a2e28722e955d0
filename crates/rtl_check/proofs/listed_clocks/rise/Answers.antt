use Rattle.std.proofs.Common.{arith, refl}
use Rattle.rtl_check.proofs.ListedPairs.{rises_on, all_rise}
use Rattle.rtl_check.proofs.listed_clocks.rise.Goals as goal

pub loop-k-preserved : goal.loop-k-preserved
loop-k-preserved c =
    rises_on c.args.clocks.now c.loop-k.k _ _ c.loop-k.auto.k (omega (arith, c.loop-k-test.true, c.loop-k.auto.k-end)) (c.comes_before.ensures.0 c.if-not-comes_before.false) c.loop-k.invariant

pub returns : goal.returns
returns c = (λ t. all_rise c.args.clocks.now (λ j d l. c.loop-k.invariant j d (omega (arith, l, c.loop-k-test.false, c.loop-k.auto.k-end))), λ R. refl)
