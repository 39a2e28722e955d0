use Rattle.std.proofs.Common.{◌≡◌, length}
use Rattle.vhdl_slips.specs.Choices.{HasRoom, choices_in, is_written}
use Rattle.vhdl_slips.proofs.choice.is_choice.Given as goal

-- the choices that are left decide
abbrev pub invariant-loop-choice : goal.invariant-loop-choice
invariant-loop-choice l = (is_written l.text (choices_in l.left) l.word ≡ is_written l.text (choices_in l.fn.choices) l.word) × HasRoom l.left

abbrev pub decreases-loop-choice : goal.decreases-loop-choice
decreases-loop-choice l = length l.left.left.now
