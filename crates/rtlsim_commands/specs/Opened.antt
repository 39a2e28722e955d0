-- What a command answers that opens a source and then does its work on the netlist.
use Rattle.std.specs.Prelude.{◌≡◌, ◌⊎◌, ℕ, List, Result, Err}
use Rattle.rtlsim_command_faults.specs.Faults.{of_source}
use Rattle.rtlsim_command_faults.specs.declared.faults.Fault.{Fault}
use Rattle.rtl_net.specs.Nets.{NetlistView}
use Rattle.byte_streams.specs.Written.{SinkState}
use Rattle.vhdl_front_rules.specs.Asking.{Asked, plainly}
use Rattle.vhdl_front_rules.specs.Designs.{IsNetOf}
use Rattle.vhdl_front_rules.specs.Refusals.{Refuses}
use Rattle.vhdl_front_rules.specs.declared.fault.SourceFault.{SourceFault}

-- The source has this netlist, and the command does its work on it; or the source is refused, and this is so of what
-- is written.
abbrev pub OpensOr : {A : Type 0} → (Refused : SourceFault → (old new : SinkState) → Type 0)
    → (Does : NetlistView → Result A Fault → SinkState → SinkState → Type 0)
    → Asked → Result A Fault → (old new : SinkState) → Type 0
OpensOr {A} Refused Does asked answer old new =
    ((net : NetlistView) × IsNetOf asked net × Does net answer old new)
    ⊎ ((fault : SourceFault) × (answer ≡ Err (of_source fault)) × Refuses asked fault × Refused fault old new)

-- nothing is written of a source that is refused
abbrev pub Writeless : SourceFault → (old new : SinkState) → Type 0
Writeless fault old new = new ≡ old

-- with no generic of the top set
abbrev pub Opens : {A : Type 0} → (Does : NetlistView → Result A Fault → SinkState → SinkState → Type 0)
    → (source top : List ℕ) → Result A Fault
    → (old new : SinkState) → Type 0
Opens Does source top answer old new = OpensOr Writeless Does (plainly source top) answer old new
