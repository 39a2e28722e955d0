-- What nets start with.
use Rattle.std.specs.Prelude.{◌≡◌, ℕ, ◌<◌, List, ◌++◌, length, slice_index}
use Rattle.rtl_model.specs.bodies.Types.{ElementType}
use Rattle.rtl_net.specs.declared.building.IdlePort.{IdlePort}
use Rattle.rtl_net.specs.declared.process.Process.{Process}
use Rattle.vhdl_elab_rules.specs.Wiring.{start_of}
use Rattle.vhdl_connect.specs.Held.{processes_hold, idle_hold, start_with, with_defaults}

-- a net starts with the resolution of what the drivers of these processes and these idle ports hold at it
abbrev pub EachNetStartsAsHeld : Type 0
EachNetStartsAsHeld =
    (types : List ElementType) (inputs defaults : List ℕ) (idle : List IdlePort) (processes : List Process) (n : ℕ)
    → n < length defaults
    → start_of (with_defaults types inputs defaults idle processes) n
    ≡ start_with (slice_index defaults n) (processes_hold processes n ++ idle_hold idle n)
