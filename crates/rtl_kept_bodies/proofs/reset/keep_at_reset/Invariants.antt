use Rattle.std.proofs.Common.{◌≡◌, take, drop}
use Rattle.rtl_model.specs.bodies.Body.{followed_by}
use Rattle.rtl_net.specs.Bodies.{statements_of}
use Rattle.rtl_kept_bodies.specs.Steps.{place_at, all_at_reset}
use Rattle.rtl_kept_bodies.proofs.reset.keep_at_reset.Given as goal

-- the first statements are what they become
abbrev pub invariant-loop-i : goal.invariant-loop-i
invariant-loop-i l =
    followed_by (statements_of (take l.i l.statements)) (all_at_reset (place_at l.places) (statements_of (drop l.i l.statements)))
    ≡ all_at_reset (place_at l.places) (statements_of l.initial.statements)
