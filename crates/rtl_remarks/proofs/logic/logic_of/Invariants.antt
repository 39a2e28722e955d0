use Rattle.std.proofs.Common.{◌≡◌, ℕ, take}
use Rattle.std.specs.List.{list_any}
use Rattle.rtl_body_facts.specs.Reading.{is_in}
use Rattle.rtl_remarks.specs.Remarks.{is_made}
use Rattle.rtl_remarks.proofs.logic.logic_of.Given as goal

-- what those before this one make
abbrev pub invariant-loop-process : goal.invariant-loop-process
invariant-loop-process l = (n : ℕ) → is_in n l.nets.items ≡ list_any (λ p. is_made p n) (take l.process-index l.processes)
