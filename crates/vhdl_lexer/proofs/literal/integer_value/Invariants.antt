use Rattle.std.proofs.Common.{◌≡◌, ◌≤◌, length}
use Rattle.vhdl_lexer.specs.Literals.{greatest_integer, value_after}
use Rattle.vhdl_lexer.proofs.literal.integer_value.Given as goal

abbrev pub invariant-loop-text : goal.invariant-loop-text
invariant-loop-text l = (value_after l.value l.text ≡ value_after 0 l.initial.text) × (l.value ≤ greatest_integer)

abbrev pub decreases-loop-text : goal.decreases-loop-text
decreases-loop-text l = length l.text
