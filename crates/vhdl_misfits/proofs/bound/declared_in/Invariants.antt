use Rattle.std.proofs.Common.{◌≡◌, length}
use Rattle.vhdl_misfits.specs.Bounds.{declared_at, declared_in, declared_view}
use Rattle.vhdl_slips.specs.Parts.{found_by}
use Rattle.vhdl_misfits.proofs.bound.declared_in.Given as goal

-- the tokens that are left decide, behind what was found
abbrev pub invariant-loop-left : goal.invariant-loop-left
invariant-loop-left l = found_by (declared_at l.text l.name l.in_list) (declared_view l.found) l.left
    ≡ declared_in l.text l.name l.in_list (declared_view l.before) l.tokens

abbrev pub decreases-loop-left : goal.decreases-loop-left
decreases-loop-left l = length l.left
