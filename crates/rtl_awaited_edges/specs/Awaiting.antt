-- The edges without which clocked processes assign nothing.
use Rattle.std.specs.Prelude.{◌≡◌, ℕ, ◌<◌, Bool, true, false, List, [], ◌∷◌, length, slice_index, slice_index_or, Option, Some, None}
use Rattle.std.specs.Option.{option_or}
use Rattle.vhdl_values.specs.Edges.{has_edge}
use Rattle.vhdl_values.specs.Scalar.{value_of_code}
use Rattle.rtl_model.specs.simulation.Netlist as m
use Rattle.rtl_body_facts.specs.declared.kinds.ProcessKind.{ProcessKind}
use Rattle.rtl_body_facts.specs.declared.kinds.ProcessKind.TheVariants as k
use Rattle.rtl_awaited_edges.specs.declared.awaited.ClockEdge.{ClockEdge}

abbrev pub unless_reset : Option ℕ → ClockEdge → Option ClockEdge
unless_reset None e = Some e
unless_reset (Some reset) e = None

-- the edge at which alone a process of this kind acts
abbrev pub edge_alone : ProcessKind → Option ClockEdge
edge_alone (k.Clocked c) = unless_reset c.reset (record { clock = c.clock; edge = c.edge })
edge_alone _ = None

-- the same of a process of a netlist
abbrev pub edge_of_kind : m.ProcessKind → Option ClockEdge
edge_of_kind (m.Clocked clock edge None) = Some (record { clock = clock; edge = edge })
edge_of_kind _ = None

abbrev pub awaited_edge : m.Netlist → (process : ℕ) → Option ClockEdge
awaited_edge net p = edge_of_kind (m.process net p).kind

-- for each process its edge, where it is clocked without a reset, or nothing
pub record AreEdges (net : m.Netlist) (edges : List (Option ClockEdge)) : Type 0 where
  pub each_process : length edges ≡ length net.processes
  pub each : (p : ℕ) → slice_index_or edges p None ≡ awaited_edge net p

-- for each process one with the same edge
pub record AreLeaders (edges : List (Option ClockEdge)) (leaders : List ℕ) : Type 0 where
  pub each_process : length leaders ≡ length edges
  pub there : (p : ℕ) → p < length edges → slice_index leaders p < length edges
  pub alike : (p : ℕ) → p < length edges
      → slice_index_or edges (slice_index leaders p) None ≡ slice_index_or edges p None

-- the first edge that one of these processes awaits
abbrev pub first_edge : List m.Process → Option ClockEdge
first_edge [] = None
first_edge (p ∷ ps) = option_or (edge_of_kind p.kind) (first_edge ps)

-- the first edge that a process of the netlist awaits, and marks of processes that await it
pub record AwaitFirst (net : m.Netlist) (awaited : Option ClockEdge) (await_it : List Bool) : Type 0 where
  pub first : awaited ≡ first_edge net.processes
  pub each_process : length await_it ≡ length net.processes
  pub each : (p : ℕ) → slice_index_or await_it p false ≡ true → awaited_edge net p ≡ awaited

-- there is an edge that is awaited, and it isn't there
abbrev pub IsAsleep : Option ClockEdge → (before now : List ℕ) → Type 0
IsAsleep None before now = ⊥
IsAsleep (Some e) before now =
    has_edge e.edge (value_of_code (slice_index before e.clock)) (value_of_code (slice_index now e.clock)) ≡ false
