use Rattle.rtl_copy_ends.proofs.table.+after.Given as goal

abbrev pub decreases-after : goal.decreases-after
decreases-after l = l.count
