-- The pairs of net and edge that clocked processes test, by the nets of each edge.
use Rattle.std.specs.Prelude.{◌↔◌, IsTrue, ℕ, Bool, true, false, ◌&&◌, ◌==◌, List, [], ◌∷◌, ◌++◌}
use Rattle.std.specs.List.Sorted.{IsStrictlyIncreasing}
use Rattle.rtl_model.specs.simulation.Netlist as m
use Rattle.rtl_model.specs.simulation.Netlist.{Netlist, Edge, IsClockedBy}
use Rattle.rtl_model.specs.simulation.Report.{edge_number}
use Rattle.rtl_body_facts.specs.declared.kinds.ProcessKind.{ProcessKind}
use Rattle.rtl_body_facts.specs.declared.kinds.ProcessKind.TheVariants as k
use Rattle.rtl_body_facts.specs.Reading.{is_in}
use Rattle.rtl_check.specs.declared.clock_edges.EdgeNets.{EdgeNets}

-- a process of this kind is clocked by this edge of the net
abbrev pub tests : Edge → (net : ℕ) → ProcessKind → Bool
tests edge net k.Combinational = false
tests edge net (k.Clocked c) = (edge_number c.edge == edge_number edge) && (c.clock == net)
tests edge net k.Mixed = false

-- the nets by this edge of which processes are clocked, rising
pub record AreEdgeNets (net : Netlist) (edge : Edge) (nets : List ℕ) : Type 0 where
  pub rise : IsStrictlyIncreasing nets
  pub are : (n : ℕ) → IsTrue (is_in n nets) ↔ ((p : ℕ) × IsClockedBy net p n edge)

-- a pair that is there or not
abbrev pub pair_if : Bool → ℕ → Edge → List (ℕ × Edge)
pair_if true n edge = (n, edge) ∷ []
pair_if false n edge = []

-- ---- by the nets of each edge

abbrev pub by_edge : (rising falling to_one to_zero : List ℕ) → Edge → List ℕ
by_edge rising falling to_one to_zero m.Rising = rising
by_edge rising falling to_one to_zero m.Falling = falling
by_edge rising falling to_one to_zero m.To1 = to_one
by_edge rising falling to_one to_zero m.To0 = to_zero

abbrev pub tested_at : (nets : Edge → List ℕ) → (n : ℕ) → Edge → List (ℕ × Edge)
tested_at nets n edge = pair_if (is_in n (nets edge)) n edge

-- the pairs of a net, and of some nets, in order
abbrev pub edges_at : (nets : Edge → List ℕ) → (n : ℕ) → List (ℕ × Edge)
edges_at nets n =
    tested_at nets n m.Rising ++ (tested_at nets n m.Falling ++ (tested_at nets n m.To1 ++ tested_at nets n m.To0))

abbrev pub pairs_of : (nets : Edge → List ℕ) → (clocks : List ℕ) → List (ℕ × Edge)
pairs_of nets [] = []
pairs_of nets (n ∷ ns) = edges_at nets n ++ pairs_of nets ns

abbrev pub nets_by : EdgeNets → Edge → List ℕ
nets_by e = by_edge e.rising.items e.falling.items e.to_one.items e.to_zero.items

abbrev pub AreAllEdgeNets : Netlist → EdgeNets → Type 0
AreAllEdgeNets net e = (edge : Edge) → AreEdgeNets net edge (nets_by e edge)
