use Rattle.std.proofs.Common.{◌≡◌, length}
use Rattle.std.specs.List.{list_all}
use Rattle.vhdl_slips.specs.Choices.{HasRoom, choices_in, is_among}
use Rattle.vhdl_slips.specs.Words.{read_of, text_of}
use Rattle.vhdl_slips.proofs.choice.are_literals.Given as goal

-- the choices that are left decide
abbrev pub invariant-loop-choice : goal.invariant-loop-choice
invariant-loop-choice l = (list_all (λ choice. is_among (read_of l.literals) (text_of l.text choice)) (choices_in l.left)
    ≡ list_all (λ choice. is_among (read_of l.literals) (text_of l.text choice)) (choices_in l.fn.choices)) × HasRoom l.left

abbrev pub decreases-loop-choice : goal.decreases-loop-choice
decreases-loop-choice l = length l.left.left.now
