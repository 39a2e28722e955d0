use Rattle.rtl_vcd_values.proofs.positions.+is_other_position.Given as goal

abbrev pub decreases-is_other_position : goal.decreases-is_other_position
decreases-is_other_position l = l.digits
