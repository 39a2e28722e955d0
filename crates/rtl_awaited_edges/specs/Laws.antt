-- A process that is asleep.
use Rattle.std.specs.Prelude.{◌≡◌, ℕ, List, slice_index_or, None}
use Rattle.rtl_model.specs.simulation.Elaborated.{IsElaborated}
use Rattle.rtl_model.specs.simulation.Netlist.{process}
use Rattle.rtl_net.specs.Core.{core}
use Rattle.rtl_net.specs.Nets.{NetlistView}
use Rattle.rtl_awaited_edges.specs.Awaiting.{IsAsleep, awaited_edge}

-- It assigns nothing.
abbrev pub EachAsleepAssignsNothing : Type 0
EachAsleepAssignsNothing =
    (net : NetlistView) → IsElaborated (core net) → (before now : List ℕ) (p : ℕ)
    → IsAsleep (awaited_edge (core net) p) before now
    → (place : ℕ) → slice_index_or ((process (core net) p).effect before now) place None ≡ None
