use Rattle.std.proofs.Common.{◌≡◌, ◌<◌, length, get_or, ap, arith}
use Rattle.rtl_net.specs.declared.body.Statement.{Statement}
use Rattle.rtl_kept_bodies.proofs.Evaluating.{constants_more, constants_done, can_next}
use Rattle.rtl_kept_bodies.proofs.values.make_constants.Goals as goal

pub loop-i-preserved : goal.loop-i-preserved
loop-i-preserved c =
    let l = c.loop-i in
    let at = c.index-statements-i in
    let within : l.i < length l.statements = omega (arith, c.loop-i-test.true, l.auto.statements) in
    let x = get_or l.statements l.i at.result in
    let is : x ≡ get_or l.statements l.i x = ap (λ (z : Statement). get_or l.statements l.i z) at.is in
    record {
      so_far = constants_more l.out.variables _ _ l.statements l.i x _ within is c.make_constant.ensures.variables l.invariant.so_far c.make_constant.ensures.statement;
      can = can_next l.out.variables l.statements l.i x within is l.invariant.can _ _ c.make_constant.ensures.variables;
    }

pub returns : goal.returns
returns c =
    let l = c.loop-i in constants_done l.out.variables _ l.statements l.i (omega (arith, c.loop-i-test.false, l.auto.statements)) l.invariant.so_far
