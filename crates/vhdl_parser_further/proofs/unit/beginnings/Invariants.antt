use Rattle.std.proofs.Common.{◌≡◌, ◌+◌, ◌≤◌, length}
use Rattle.vhdl_parser_further.specs.Units as spec
use Rattle.vhdl_parser_further.proofs.unit.beginnings.Given as goal

abbrev pub invariant-loop-left : goal.invariant-loop-left
invariant-loop-left l =
    (l.count + spec.beginnings l.last l.left ≡ spec.beginnings l.fn.behind l.tokens) × (l.count + length l.left ≤ length l.tokens)

abbrev pub decreases-loop-left : goal.decreases-loop-left
decreases-loop-left l = length l.left
