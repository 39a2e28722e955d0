-- What a list of clocks says.
use Rattle.std.specs.Prelude.{ℕ, Bool, ◌&&◌, ◌==◌, List, Contains}
use Rattle.rtl_model.specs.simulation.Netlist.{Netlist, Edge, IsClockedBy}
use Rattle.rtl_model.specs.simulation.Report.{edge_number}

abbrev pub is_pair : (net : ℕ) → Edge → ℕ × Edge → Bool
is_pair net edge x = (x.0 == net) && (edge_number x.1 == edge_number edge)

-- some process is clocked by this edge of the net
abbrev pub IsTested : Netlist → (n : ℕ) → Edge → Type 0
IsTested net n edge = (p : ℕ) × IsClockedBy net p n edge

-- each pair is tested; and each that is tested is listed
abbrev pub AreTested : Netlist → List (ℕ × Edge) → Type 0
AreTested net clocks = (n : ℕ) (edge : Edge) → Contains clocks (n, edge) → IsTested net n edge

abbrev pub AreListed : Netlist → List (ℕ × Edge) → Type 0
AreListed net clocks = (p n : ℕ) (edge : Edge) → IsClockedBy net p n edge → Contains clocks (n, edge)
