use Rattle.std.proofs.Common.{◌≡◌, map, take}
use Rattle.rtl_kernel.specs.drivers.Rows.{rows}
use Rattle.rtl_kernel.specs.drivers.Starts.{start_row}
use Rattle.rtl_kernel.proofs.starts.start_rows.Given as goal

abbrev pub invariant-loop-process : goal.invariant-loop-process
invariant-loop-process l = rows l.all.items ≡ map start_row (take l.process-index l.processes)
