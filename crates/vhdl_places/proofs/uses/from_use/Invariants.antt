use Rattle.std.proofs.Common.{◌≡◌, ◌+◌, ◌≤◌, length, map}
use Rattle.vhdl_places.specs.Uses.{from_here, from_use}
use Rattle.vhdl_places.proofs.uses.from_use.Given as goal

-- the tokens that are left decide, and no more are open than were read
abbrev pub invariant-loop-left : goal.invariant-loop-left
invariant-loop-left l =
    (from_here l.wanted l.text (map (λ n. n.now) l.names) l.depth l.last l.left
    ≡ from_use l.wanted l.text (map (λ n. n.now) l.names) l.tokens)
    × (l.depth + length l.left ≤ length l.tokens)

abbrev pub decreases-loop-left : goal.decreases-loop-left
decreases-loop-left l = length l.left
