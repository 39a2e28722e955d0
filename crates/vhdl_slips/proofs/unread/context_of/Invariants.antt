use Rattle.std.proofs.Common.{◌≡◌, length}
use Rattle.vhdl_slips.specs.Forms.{context_of, context_with}
use Rattle.vhdl_slips.specs.Parts.{found_by}
use Rattle.vhdl_slips.proofs.unread.context_of.Given as goal

-- the tokens that are left go on from what those before them make
abbrev pub invariant-loop-tokens : goal.invariant-loop-tokens
invariant-loop-tokens l = found_by context_with l.context l.tokens ≡ context_of l.begins_line l.initial.tokens

abbrev pub decreases-loop-tokens : goal.decreases-loop-tokens
decreases-loop-tokens l = length l.tokens
