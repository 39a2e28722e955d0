use Rattle.std.proofs.Common.{◌+◌, ◌-◌, ◌/◌, arith}
use Rattle.rtl_stim.proofs.Halving.{apart, half_below, higher, lower, found, nowhere}
use Rattle.rtl_stim.proofs.races.is_clock.Goals as goal

pub returns-then-clock-net-clause-clock : goal.returns-then-clock-net-clause-clock
returns-then-clock-net-clause-clock c =
    let l = c.loop-low in
    let below = half_below l.low l.high c.loop-low-test.true in
    λ yes. found c.args.clocks.now c.requires c.args.net (l.low + (l.high - l.low) / 2) _ (omega (arith, below, l.invariant.end)) c.if-clock-net.true

pub loop-low-preserved-then-clock-net-2 : goal.loop-low-preserved-then-clock-net-2
loop-low-preserved-then-clock-net-2 c =
    let l = c.loop-low in
    let below = half_below l.low l.high c.loop-low-test.true in
    record {
      between = higher c.args.clocks.now c.requires c.args.net l.low l.high (l.low + (l.high - l.low) / 2) _ (omega (arith, below, l.invariant.end)) c.if-clock-net-2.true l.invariant.between;
      end = l.invariant.end;
    }

pub loop-low-preserved : goal.loop-low-preserved
loop-low-preserved c =
    let l = c.loop-low in
    let below = half_below l.low l.high c.loop-low-test.true in
    record {
      between = lower c.args.clocks.now c.requires c.args.net l.low l.high (l.low + (l.high - l.low) / 2) _ (omega (arith, below, l.invariant.end)) (apart c.if-clock-net.false c.if-clock-net-2.false) l.invariant.between;
      end = omega (arith, below, l.invariant.end);
    }

pub returns-clause-none : goal.returns-clause-none
returns-clause-none c =
    let l = c.loop-low in
    λ no. nowhere c.args.clocks.now c.requires c.args.net l.low l.high c.loop-low-test.false l.invariant.between
