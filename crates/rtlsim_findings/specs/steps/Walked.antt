-- What was found on the way: where the process that was walked over last leaves out assignments, and the walks down
-- copies of a wide netlist.
use Rattle.std.specs.Prelude.{◌≡◌, ℕ, true, nat_eq, slice_get, Option, IfSome}
use Rattle.std.specs.HashMap.{get}
use Rattle.rtl_copy_ends.specs.Steps.{AreWalks}
use Rattle.rtl_copy_ends.specs.declared.walks.Walks.{Walks}
use Rattle.rtl_net.specs.Nets.{NetlistView}
use Rattle.rtlsim_findings.specs.Omitted.{omission_at}
use Rattle.rtlsim_findings.specs.declared.omitted.Omissions.{Omissions}

abbrev pub AreOf : NetlistView → Omissions → Type 0
AreOf net o = (n : ℕ) → get nat_eq o.places n ≡ omission_at n (slice_get net.processes o.process)

abbrev pub IfMade : NetlistView → Option Walks → Type 0
IfMade net walks = IfSome walks (λ w. net.wide ≡ true → AreWalks net w)
