use Rattle.std.proofs.Common.{◌≡◌, vec_len}
use Rattle.vhdl_names_units.specs.views.Sequential.{body_view}
use Rattle.vhdl_names_registers.specs.Tied.{tied}
use Rattle.vhdl_names_registers.proofs.Tying.{closing}
use Rattle.vhdl_names_registers.proofs.Branches.{left_of}
use Rattle.vhdl_names_registers.proofs.registers.tied.Given as goal

-- what is made, and what is left
abbrev pub invariant-loop-statement : goal.invariant-loop-statement
invariant-loop-statement l = closing l.is_open (body_view l.all) (tied (left_of l.left.items)) ≡ tied (body_view l.fn.list)

abbrev pub decreases-loop-statement : goal.decreases-loop-statement
decreases-loop-statement l = vec_len l.left
