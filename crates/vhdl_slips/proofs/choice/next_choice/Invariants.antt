use Rattle.std.proofs.Common.{◌≡◌, ◌+◌, ◌≤◌, ◌<◌, ◌^◌, length}
use Rattle.vhdl_slips.specs.Choices.{choices_from, choices_in}
use Rattle.vhdl_slips.proofs.choice.next_choice.Given as goal

-- no choice stands before what is left
abbrev pub invariant-loop-left : goal.invariant-loop-left
invariant-loop-left l = record {
  same : choices_from l.opened l.last l.left ≡ choices_in l.fn.statement;
  room : l.opened + length l.left < 2 ^ 64;
  within : length l.left ≤ length l.fn.statement.left.now;
}

abbrev pub decreases-loop-left : goal.decreases-loop-left
decreases-loop-left l = length l.left
