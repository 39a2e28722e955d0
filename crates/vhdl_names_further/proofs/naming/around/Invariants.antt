use Rattle.std.proofs.Common.{◌≡◌, length}
use Rattle.vhdl_names_further.specs.Naming.{around}
use Rattle.vhdl_names_further.proofs.naming.around.Given as goal

-- the tokens that are left decide
abbrev pub invariant-loop-others : goal.invariant-loop-others
invariant-loop-others l = around l.at l.others ≡ around l.at l.tokens

abbrev pub decreases-loop-others : goal.decreases-loop-others
decreases-loop-others l = length l.others
