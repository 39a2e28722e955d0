use Rattle.rtl_kernel.specs.drivers.Rows.{rows}
use Rattle.rtl_kernel.specs.drivers.Updates.{IsUpdating}
use Rattle.rtl_kernel.proofs.drivers.update_rows.Given as goal

abbrev pub invariant-loop-process : goal.invariant-loop-process
invariant-loop-process l =
    IsUpdating l.process-items l.process-index (record { drivers = rows l.initial.drivers.items; outcomes = l.initial.outcomes.items }) l.initial.nets
    (record { drivers = rows l.drivers.items; outcomes = l.outcomes.items }) l.nets
