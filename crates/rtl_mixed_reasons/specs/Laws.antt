-- What holds of reasons.
use Rattle.std.specs.Prelude.{◌≡◌, ℕ, false, ◌↔◌, IsSome}
use Rattle.rtl_model.specs.simulation.Netlist.{Mixed, process}
use Rattle.rtl_model.specs.simulation.Accepted.{MixedProcess, IsFault}
use Rattle.rtl_net.specs.Core.{core}
use Rattle.rtl_net.specs.Nets.{NetlistView}
use Rattle.rtl_mixed_reasons.specs.Unsteady.{reason_of}

-- A process that is neither clocked nor combinational has a reason; and where the netlist isn't wide, a process has one
-- exactly where the checker finds it to be neither.
abbrev pub EachMixedHasAReason : Type 0
EachMixedHasAReason =
    (net : NetlistView) (p : ℕ)
    → ((process (core net) p).kind ≡ Mixed → IsSome (reason_of net p))
    × (net.wide ≡ false → (IsFault (core net) (MixedProcess p) ↔ IsSome (reason_of net p)))
