-- Which combinational processes drive a net, by the kinds of processes.
use Rattle.std.specs.Prelude.{◌↔◌, ℕ, Bool, false, ◌&&◌, ◌==◌, List, Option, Some, None, Contains}
use Rattle.smallvec.specs.SmallVec.{SmallVec}
use Rattle.rtl_model.specs.simulation.Netlist.{Netlist, Source, Driver, Idle, IsCombinational}
use Rattle.rtl_model.specs.simulation.Accepted.{Feeds}
use Rattle.rtl_body_facts.specs.declared.kinds.ProcessKind.{ProcessKind}
use Rattle.rtl_process_kinds.specs.KindViews.{combinational_at}

-- the source is a driver of the combinational process p
abbrev pub feeds_by : List ProcessKind → (p : ℕ) → Source → Bool
feeds_by kinds p (Driver q place) = combinational_at kinds q && (q == p)
feeds_by kinds p (Idle v) = false

-- what a table has of process q: those that feed it, if it is combinational
abbrev pub IsRow : Netlist → (q : ℕ) → Option (SmallVec ℕ) → Type 0
IsRow net q None = IsCombinational net q → ⊥
IsRow net q (Some feeders) = IsCombinational net q × ((p : ℕ) → Contains feeders.items p ↔ Feeds net p q)
