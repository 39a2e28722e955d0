use Rattle.std.specs.Prelude.{◌≡◌, ◌+◌, ◌≤◌, map}
use Rattle.rtl_net.specs.Nets.{scope_view}
use Rattle.rtl_vcd.specs.Header as spec
use Rattle.rtl_vcd.proofs.heading.depth.Given as goal

-- what is counted, and the depth of the scope that is reached
abbrev pub invariant-loop-scope : goal.invariant-loop-scope
invariant-loop-scope l =
    (l.depth + spec.depth (map scope_view l.scopes) l.scope ≡ spec.depth (map scope_view l.scopes) l.number) × (l.depth + l.scope ≤ l.number)

abbrev pub decreases-loop-scope : goal.decreases-loop-scope
decreases-loop-scope l = l.scope
