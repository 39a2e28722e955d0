use Rattle.std.proofs.Common.{◌≡◌, ℕ, take}
use Rattle.std.specs.List.{list_any}
use Rattle.rtl_body_facts.specs.Reading.{is_in}
use Rattle.rtl_check.specs.Rules.{has_clock}
use Rattle.rtl_check.proofs.clocks.clock_nets.Given as goal

abbrev pub invariant-loop-kind : goal.invariant-loop-kind
invariant-loop-kind l = (n : ℕ) → is_in n l.clocks.items ≡ list_any (has_clock n) (take l.kind-index l.kinds)
