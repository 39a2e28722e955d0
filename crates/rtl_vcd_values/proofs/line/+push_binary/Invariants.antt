use Rattle.rtl_vcd_values.proofs.line.+push_binary.Given as goal

abbrev pub decreases-push_binary : goal.decreases-push_binary
decreases-push_binary l = l.digits
