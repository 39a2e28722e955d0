use Rattle.std.proofs.Common.{◌≡◌, ◌++◌, take}
use Rattle.rtl_remarks.specs.Remarks.{of_processes, on_process}
use Rattle.rtl_remarks.proofs.processes.push_on_processes.Given as goal

-- the remarks on the processes before this one were appended
abbrev pub invariant-loop-number : goal.invariant-loop-number
invariant-loop-number l = l.remarks.items ≡ l.initial.remarks.items ++ of_processes (on_process l.net l.kind) 0 (take l.number l.net.processes)
