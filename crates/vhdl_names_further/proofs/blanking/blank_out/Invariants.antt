use Rattle.std.proofs.Common.{◌≡◌, ◌-◌}
use Rattle.vhdl_lexer.specs.Extents.{blanked, blanked_from}
use Rattle.vhdl_names_further.proofs.blanking.blank_out.Given as goal

-- what is from the place on is to be blank still
abbrev pub invariant-loop-at : goal.invariant-loop-at
invariant-loop-at l = blanked_from (record { start = l.at; end = l.fn.extent.end }) 0 l.left ≡ blanked l.fn.extent l.initial.left

abbrev pub decreases-loop-at : goal.decreases-loop-at
decreases-loop-at l = l.end - l.at
