use Rattle.rtl_run.proofs.fault.settled_fault.Goals as goal

pub unreachable-requires : goal.unreachable-requires
unreachable-requires c = c.requires c.in-NoSettling.time c.in-NoSettling.is
