-- The report on an accepted netlist: levels, what each comes from, the clocks, and the bound.
use Rattle.std.specs.Prelude.{◌≡◌, ◌≢◌, ℕ, suc, zero, ◌<◌, ◌≤◌, ◌↔◌, List, [], ◌∷◌, length, slice_index_or, Option, Some, None, Contains}
use Rattle.rtl_model.specs.basics.Lists.{RisesBy}
use Rattle.rtl_model.specs.simulation.Netlist.{Netlist, Edge, Rising, Falling, To1, To0, IsCombinational, IsClockedBy}
use Rattle.rtl_model.specs.simulation.Accepted.{Feeds, IsByNets}
use Rattle.rtl_model.specs.simulation.Levels.{AreLevels, IsLevel, ShowLevels, bound}

-- what from says of the combinational process q: nothing at level 1, else the lowest process of the level below that
-- drives something q is sensitive to
abbrev pub IsFrom : Netlist → (q : ℕ) → Option ℕ → Type 0
IsFrom net q None = IsLevel net q 1
IsFrom net q (Some p) =
    (below : ℕ) × IsLevel net q (suc below) × IsLevel net p below × Feeds net p q
    × ((r : ℕ) → r < p → IsLevel net r below → Feeds net r q → ⊥)

abbrev pub edge_number : Edge → ℕ
edge_number Rising = 0
edge_number Falling = 1
edge_number To1 = 2
edge_number To0 = 3

-- by net, then in the order of the edges
abbrev pub clock_key : ℕ × Edge → List ℕ
clock_key (n, edge) = n ∷ edge_number edge ∷ []

-- the pairs of net and edge that clocked processes test, each once and in order
pub record AreClocks (net : Netlist) (clocks : List (ℕ × Edge)) : Type 0 where
  pub are : (n : ℕ) (edge : Edge) → Contains clocks (n, edge) ↔ ((p : ℕ) × IsClockedBy net p n edge)
  pub rise : RisesBy clock_key clocks

-- what a report says beside levels and their froms, of a netlist that is judged by processes
pub record ReportRest (net : Netlist) (from : List (Option ℕ))
    (clocks : List (ℕ × Edge)) (most greatest : ℕ) : Type 0 where
  pub by_processes : IsByNets net → ⊥
  pub bound_is : most ≡ bound net greatest
  pub each_from : length from ≡ length net.processes
  pub from_clocked : (p clock : ℕ) (edge : Edge) → IsClockedBy net p clock edge → slice_index_or from p None ≡ None
  pub clocks_are : AreClocks net clocks

-- the levels, each process's from, the clocks, and the bound
pub record IsReport (net : Netlist) (levels from : List (Option ℕ)) (clocks : List (ℕ × Edge)) (most : ℕ) : Type 0 where
  pub greatest : ℕ
  pub levels_are : AreLevels net levels greatest
  pub from_combinational : (p : ℕ) → IsCombinational net p → IsFrom net p (slice_index_or from p None)
  pub rest : ReportRest net from clocks most greatest

-- from leads from q down to level 1, through so many processes
abbrev pub LeadsDown : Netlist → (from : List (Option ℕ)) → (q : ℕ) → (many : ℕ) → Type 0
LeadsDown net from q zero = ⊥
LeadsDown net from q (suc zero) = IsCombinational net q × (slice_index_or from q None ≡ None)
LeadsDown net from q (suc (suc n)) =
    (p : ℕ) × (slice_index_or from q None ≡ Some p) × Feeds net p q × LeadsDown net from p (suc n)

-- The same by local facts, which speak of no chain: the levels are shown; at level 1 there is no from, and no process
-- below a from would do.
pub record ShowReport (net : Netlist) (levels from : List (Option ℕ))
    (clocks : List (ℕ × Edge)) (most : ℕ) : Type 0 where
  pub greatest : ℕ
  pub shown : ShowLevels net levels from
  pub each_process : length levels ≡ length net.processes
  pub clocked : (p clock : ℕ) (edge : Edge) → IsClockedBy net p clock edge → slice_index_or levels p None ≡ None
  pub none_above : (p level : ℕ) → slice_index_or levels p None ≡ Some level → level ≤ greatest
  pub met : greatest ≢ 0 → (p : ℕ) × (slice_index_or levels p None ≡ Some greatest)
  pub from_first : (q : ℕ) → IsCombinational net q
      → slice_index_or levels q None ≡ Some 1 → slice_index_or from q None ≡ None
  pub from_lowest : (q p below r : ℕ) → IsCombinational net q → slice_index_or levels q None ≡ Some (suc below)
      → slice_index_or from q None ≡ Some p → r < p → slice_index_or levels r None ≡ Some below → Feeds net r q → ⊥
  pub rest : ReportRest net from clocks most greatest
