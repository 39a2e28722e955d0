use Rattle.std.proofs.Common.{◌≡◌, map}
use Rattle.rtl_net.specs.Nets.{scope_view}
use Rattle.rtlsim_notes.specs.Scopes.{child_of, child_within}
use Rattle.rtlsim_notes.proofs.scopes.child_of.Given as goal

-- the steps that are left decide from here on
abbrev pub invariant-loop-steps : goal.invariant-loop-steps
invariant-loop-steps l = child_within l.steps (map scope_view l.scopes) l.owner l.here ≡ child_of (map scope_view l.scopes) l.owner l.scope

abbrev pub decreases-loop-steps : goal.decreases-loop-steps
decreases-loop-steps l = l.steps
