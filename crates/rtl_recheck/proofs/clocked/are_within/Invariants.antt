use Rattle.std.proofs.Common.{take}
use Rattle.rtl_recheck.specs.Kept.{AreWithin}
use Rattle.rtl_recheck.proofs.clocked.are_within.Given as goal

abbrev pub invariant-loop-net : goal.invariant-loop-net
invariant-loop-net l = AreWithin (take l.net-index l.nets) l.others
