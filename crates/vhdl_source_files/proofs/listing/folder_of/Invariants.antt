use Rattle.vhdl_source_files.proofs.Named.{Ends}
use Rattle.vhdl_source_files.proofs.listing.folder_of.Given as goal

abbrev pub invariant-loop-end : goal.invariant-loop-end
invariant-loop-end l = Ends l.list l.end

abbrev pub decreases-loop-end : goal.decreases-loop-end
decreases-loop-end l = l.end
