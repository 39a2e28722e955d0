use Rattle.std.proofs.Common.{◌≡◌, ℕ, false, take}
use Rattle.std.specs.List.{list_any}
use Rattle.rtl_model.specs.bodies.Reads.{events}
use Rattle.rtl_net.specs.Nets.{body_of}
use Rattle.rtl_body_facts.specs.Reading.{is_in}
use Rattle.rtl_remarks.proofs.clocks.clocks_of.Given as goal

-- the events of the processes before this one
abbrev pub invariant-loop-process : goal.invariant-loop-process
invariant-loop-process l = l.events.refused ≡ false
    → (n : ℕ) → is_in n l.events.nets.items ≡ list_any (λ p. is_in n (events (body_of p))) (take l.process-index l.processes)
