use Rattle.std.proofs.Common.{arith, sym, ◌∙◌}
use Rattle.rtl_body_facts.specs.Paths.{covers}
use Rattle.rtl_latches.proofs.Runs.{run_goes}
use Rattle.rtl_latches.proofs.paths.run_has.Goals as goal

pub loop-i-preserved : goal.loop-i-preserved
loop-i-preserved c =
    run_goes (covers c.args.drives.now c.args.net) c.args.first c.args.len c.loop-i.i _ (omega (arith, c.loop-i-test.true, c.loop-i.auto.i-end))
    (sym c.is_driver.ensures ∙ c.if-is_driver.false) c.loop-i.invariant
