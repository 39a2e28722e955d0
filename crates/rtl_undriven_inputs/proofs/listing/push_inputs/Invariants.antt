use Rattle.std.proofs.Common.{◌≡◌, ◌++◌}
use Rattle.rtl_body_facts.specs.Reading.{is_in}
use Rattle.rtl_remarks.specs.Remarks.{of_nets}
use Rattle.rtl_undriven_inputs.specs.Naming.{without}
use Rattle.rtl_undriven_inputs.proofs.listing.push_inputs.Given as goal

-- the remarks on the nets before this one were appended
abbrev pub invariant-loop-number : goal.invariant-loop-number
invariant-loop-number l = l.remarks.items ≡ l.initial.remarks.items ++ of_nets (without l.net l.clock (λ n. is_in n l.named)) l.number
