use Rattle.std.proofs.Common.{take}
use Rattle.rtl_kernel.specs.drivers.Transactions.{nets_of}
use Rattle.rtl_levels.specs.Scheduled.{GetLevel}
use Rattle.rtl_levels.proofs.levels.set_levels.Given as goal

abbrev pub invariant-loop-driver : goal.invariant-loop-driver
invariant-loop-driver l = GetLevel (nets_of (take l.driver-index l.drives)) l.level l.initial.nets.items l.nets.items
