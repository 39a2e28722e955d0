use Rattle.std.proofs.Common.{◌≡◌, map, take}
use Rattle.rows_on_net.proofs.bodies.with_stamps.Given as goal

abbrev pub invariant-loop-body : goal.invariant-loop-body
invariant-loop-body g l = map (λ b. b.body.now) l.stamped.items ≡ take l.body-index l.bodies
