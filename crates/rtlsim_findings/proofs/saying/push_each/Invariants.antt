use Rattle.std.proofs.Common.{◌≡◌, ◌++◌, map, take}
use Rattle.std.specs.Prelude.{flat_map}
use Rattle.rtl_check.specs.Views.{fault_view}
use Rattle.rtlsim_findings.specs.Sayings.{processes_in}
use Rattle.rtlsim_findings.proofs.saying.push_each.Given as goal

abbrev pub invariant-loop-fault : goal.invariant-loop-fault
invariant-loop-fault l =
    l.processes.items ≡ l.initial.processes.items ++ flat_map processes_in (map (λ f. fault_view f.now) (take l.fault-index l.faults))
