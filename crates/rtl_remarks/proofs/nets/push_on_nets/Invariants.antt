use Rattle.std.proofs.Common.{◌≡◌, ◌++◌}
use Rattle.rtl_remarks.specs.Remarks.{of_nets, on_net}
use Rattle.rtl_remarks.proofs.nets.push_on_nets.Given as goal

-- the remarks on the nets before this one were appended
abbrev pub invariant-loop-number : goal.invariant-loop-number
invariant-loop-number l = l.remarks.items ≡ l.initial.remarks.items ++ of_nets (on_net l.net l.kind) l.number
