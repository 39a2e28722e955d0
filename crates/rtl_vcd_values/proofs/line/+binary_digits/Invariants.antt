use Rattle.rtl_vcd_values.proofs.line.+binary_digits.Given as goal

abbrev pub decreases-binary_digits : goal.decreases-binary_digits
decreases-binary_digits l = l.number
