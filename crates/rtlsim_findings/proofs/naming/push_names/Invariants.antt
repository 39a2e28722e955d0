use Rattle.std.proofs.Common.{◌≡◌, ◌++◌, map, take}
use Rattle.rtl_check.specs.Views.{fault_view}
use Rattle.std.specs.Prelude.{flat_map}
use Rattle.rtlsim_findings.specs.Sayings.{own_name}
use Rattle.rtlsim_findings.proofs.naming.push_names.Given as goal

abbrev pub invariant-loop-fault : goal.invariant-loop-fault
invariant-loop-fault l =
    map (λ t. t.items) l.names.items
    ≡ map (λ t. t.items) l.initial.names.items
    ++ flat_map (own_name l.net (fault_view l.first)) (map (λ f. fault_view f.now) (take l.fault-index l.faults))
