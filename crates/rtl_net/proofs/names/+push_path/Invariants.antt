use Rattle.rtl_net.proofs.names.+push_path.Given as goal

abbrev pub decreases-push_path : goal.decreases-push_path
decreases-push_path l = l.scope
