use Rattle.rtl_signal_names.proofs.naming.+push_labels.Given as goal

abbrev pub decreases-push_labels : goal.decreases-push_labels
decreases-push_labels g l = l.scope
