use Rattle.std.proofs.Common.{get_or, ap, arith}
use Rattle.rtl_net.specs.declared.body.Statement.{Statement}
use Rattle.rtl_kept_bodies.specs.Steps.{place_at}
use Rattle.rtl_kept_bodies.proofs.Putting.{reset_more, reset_done}
use Rattle.rtl_kept_bodies.proofs.reset.keep_at_reset.Goals as goal

pub loop-i-preserved : goal.loop-i-preserved
loop-i-preserved c =
    let l = c.loop-i in
    let at = c.index-statements-i in
    reset_more (place_at c.args.places.now) _ l.statements l.i (get_or l.statements l.i at.result) c.keep_given.new.statement (omega (arith, c.loop-i-test.true, l.auto.statements))
    (ap (λ (x : Statement). get_or l.statements l.i x) at.is) l.invariant c.in_ok-keep_given.ensures

pub returns : goal.returns
returns c =
    let l = c.loop-i in reset_done (place_at c.args.places.now) _ l.statements l.i (omega (arith, c.loop-i-test.false, l.auto.statements)) l.invariant
