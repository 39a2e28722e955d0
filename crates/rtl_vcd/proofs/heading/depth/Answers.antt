use Rattle.std.proofs.Common.{arith, length, ◌<◌}
use Rattle.rtl_vcd.proofs.Scopes.{depth_of_inner, depth_of_top}
use Rattle.rtl_vcd.proofs.heading.depth.Goals as goal

pub loop-scope-smaller : goal.loop-scope-smaller
loop-scope-smaller c =
    let within : c.loop-scope.scope < length c.args.scopes.now = omega (arith, c.loop-scope.invariant.1, c.requires.there) in
    (depth_of_inner c.args.scopes.now c.requires.scopes c.loop-scope.scope _ within c.in-Some.parent c.in-Some.is).0

pub loop-scope-preserved : goal.loop-scope-preserved
loop-scope-preserved c =
    let within : c.loop-scope.scope < length c.args.scopes.now = omega (arith, c.loop-scope.invariant.1, c.requires.there) in
    let up = depth_of_inner c.args.scopes.now c.requires.scopes c.loop-scope.scope _ within c.in-Some.parent c.in-Some.is in
    (omega (arith, up.1, c.loop-scope.invariant.0), omega (arith, up.0, c.loop-scope.invariant.1))

pub returns-clause-depth : goal.returns-clause-depth
returns-clause-depth c =
    let within : c.loop-scope.scope < length c.args.scopes.now = omega (arith, c.loop-scope.invariant.1, c.requires.there) in
    omega (arith, c.loop-scope.invariant.0, depth_of_top c.args.scopes.now c.requires.scopes c.loop-scope.scope _ within c.in_default.is)
