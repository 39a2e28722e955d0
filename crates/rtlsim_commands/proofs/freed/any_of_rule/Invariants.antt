use Rattle.std.proofs.Common.{◌≡◌, length}
use Rattle.std.specs.List.{list_any}
use Rattle.rtlsim_commands.specs.Freed.{is_of_rule}
use Rattle.rtlsim_commands.proofs.freed.any_of_rule.Given as goal

abbrev pub invariant-loop-left : goal.invariant-loop-left
invariant-loop-left l = list_any (is_of_rule l.number) l.left ≡ list_any (is_of_rule l.number) l.faults

abbrev pub decreases-loop-left : goal.decreases-loop-left
decreases-loop-left l = length l.left
