use Rattle.std.proofs.Common.{refl}
use Rattle.rtl_kept_bodies.specs.Steps.{remember_of, remember_all}
use Rattle.rtl_kept_bodies.proofs.Putting.{put_more, put_all}
use Rattle.rtl_kept_bodies.proofs.edge.remember.Goals as goal

pub loop-variable-preserved : goal.loop-variable-preserved
loop-variable-preserved c =
    let l = c.loop-variable in
    put_more remember_of remember_all (λ k ks. refl) _ l.statements.items _ c.args.kept.now l.variable-index _ c.remembered.result c.loop-variable-test.true l.invariant c.remembered.ensures c.in_ok-push.ensures.items

pub returns : goal.returns
returns c =
    let l = c.loop-variable in
    put_all remember_of remember_all (λ k ks. refl) refl _ l.statements.items c.args.kept.now l.variable-index c.loop-variable-test.false l.invariant
