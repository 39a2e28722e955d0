use Rattle.std.proofs.Common.{◌≡◌, ℕ, take}
use Rattle.rtl_body_facts.specs.Reading.{is_in}
use Rattle.rtl_remarks.specs.Remarks.{starts_undefined}
use Rattle.rtl_remarks.proofs.registers.starting_undefined.Given as goal

abbrev pub invariant-loop-driver : goal.invariant-loop-driver
invariant-loop-driver l = (n : ℕ) → is_in n l.nets.items ≡ starts_undefined (take l.driver-index l.drives) n
