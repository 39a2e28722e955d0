use Rattle.std.proofs.Common.{◌∷◌, [], length, map, take, ◌+◌, refl, arith, subst, sym}
use Rattle.std.proofs.lemmas.Slice.{pushed}
use Rattle.rtl_net.specs.Nets.{signal_view}
use Rattle.rtl_vcd.specs.Ready.{AreReady}
use Rattle.rtl_vcd.proofs.Names.{shown_at}
use Rattle.rtl_vcd.proofs.Ends.{run_more}
use Rattle.rtl_vcd.proofs.ready.runs_of.Goals as goal

pub run_of-requires : goal.run_of-requires
run_of-requires c =
    let shown = shown_at (length c.args.shown.net.now.types) c.args.shown.signals.now c.loop-number.number c.index-signals-number.result c.loop-number-test.true c.index-signals-number.is c.args.shown.fits.each in
    record { some = omega (arith, shown.width.0); most = omega (arith, shown.width.1) }

pub loop-number-preserved : goal.loop-number-preserved
loop-number-preserved c =
    let signals = c.args.shown.signals.now in
    let number = c.loop-number.number in
    let items = pushed (c.run_of.result ∷ []) refl c.in_ok-push.was c.push.ensures.items in
    subst (AreReady 0 (map signal_view (take (number + 1) signals))) (sym items)
    (run_more signals c.loop-number.runs.items number c.index-signals-number.result c.run_of.result c.loop-number-test.true c.index-signals-number.is
    c.loop-number.invariant c.run_of.ensures)
