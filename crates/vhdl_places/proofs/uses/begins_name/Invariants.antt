use Rattle.std.proofs.Common.{◌≡◌, length, map}
use Rattle.vhdl_places.specs.Uses.{begins_name}
use Rattle.vhdl_places.proofs.uses.begins_name.Given as goal

-- the names that are left decide
abbrev pub invariant-loop-left : goal.invariant-loop-left
invariant-loop-left l = begins_name l.text (map (λ n. n.now) l.left) l.tokens ≡ begins_name l.text (map (λ n. n.now) l.names) l.tokens

abbrev pub decreases-loop-left : goal.decreases-loop-left
decreases-loop-left l = length l.left
