use Rattle.std.proofs.Common.{◌≡◌, length}
use Rattle.vhdl_slips.specs.Choices.{choices_in, left_out}
use Rattle.vhdl_slips.proofs.choice.left_out.Given as goal

-- the literals before those that are left are choices
abbrev pub invariant-loop-left : goal.invariant-loop-left
invariant-loop-left l = left_out l.text (choices_in l.choices) l.literals.text.now l.left ≡ left_out l.text (choices_in l.choices) l.literals.text.now l.literals.tokens.now

abbrev pub decreases-loop-left : goal.decreases-loop-left
decreases-loop-left l = length l.left
