use Rattle.std.proofs.Common.{◌≤◌, length, arith}
use Rattle.rtl_net.specs.Core.{core}
use Rattle.rtl_calm_nets.proofs.Judging.{marks_back, marks_end}
use Rattle.rtl_calm_nets.proofs.Ranges.{many_nets}
use Rattle.rtl_calm_nets.proofs.outside.clock_marks.Goals as goal

pub loop-kind-preserved : goal.loop-kind-preserved
loop-kind-preserved c =
    let l = c.loop-kind in
    let net = c.args.net.now in
    marks_back (core net) (length net.types) l.kind-index l.clocks c.mark_clock.new.clocks c.deref_mut.result.now c.args.kinds.now _ l.invariant c.requires c.loop-kind-test.true c.deref_mut.ensures.value c.mark_clock.ensures

pub returns : goal.returns
returns c =
    let l = c.loop-kind in
    let net = c.args.net.now in
    let all : length (core net).processes ≤ l.kind-index = (let e = c.requires.each_process in let h = c.loop-kind-test.false in omega arith) in
    marks_end (core net) (length net.types) l.kind-index l.clocks.items l.invariant (many_nets net c.nets-nets.ensures.elaborated) all
