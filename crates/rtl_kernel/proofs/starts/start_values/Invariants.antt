use Rattle.std.proofs.Common.{◌≡◌, take}
use Rattle.rtl_kernel.specs.drivers.Starts.{starts_of}
use Rattle.rtl_kernel.proofs.starts.start_values.Given as goal

abbrev pub invariant-loop-driver : goal.invariant-loop-driver
invariant-loop-driver l = l.starts.items ≡ take l.driver-index (starts_of l.drives)
