-- Levels by nets: of a net, the length of the longest chain of nets, each looking at the one before, that ends with it;
-- of a process, one more than that of the nets it is sensitive to. And the report on a netlist that is judged by nets.
use Rattle.std.specs.Prelude.{◌≡◌, ◌≢◌, ℕ, suc, zero, pred, ◌+◌, ◌<◌, ◌≤◌, ◌⊎◌, List, length, slice_index, slice_index_or, Option, Some, None, Contains, if◌then◌else◌}
use Rattle.rtl_model.specs.basics.Chains.{IsLongest}
use Rattle.rtl_model.specs.simulation.Netlist.{Netlist, Edge, Reset, process, target, HasPlace, HasReset, IsDriven, IsCombinational}
use Rattle.rtl_model.specs.simulation.Accepted.{IsResetBy, LooksAt, IsByNets}
use Rattle.rtl_model.specs.simulation.Levels.{AreLevels, bound, has_clocked}
use Rattle.rtl_model.specs.simulation.Report.{AreClocks}

-- ---- of nets

-- a net that may change within a moment behind others: a combinational process drives it, or it is a register that a
-- reset made inside assigns
abbrev pub IsDerived : Netlist → ℕ → Type 0
IsDerived net n =
    (p : ℕ) × (place : ℕ) × HasPlace net p place × (target net p place ≡ n)
    × (IsCombinational net p ⊎ ((m : ℕ) × IsResetBy net p place m))

-- The level of n: the length of the longest chain of such nets, each but the first looking at the one before, that ends
-- with it. So it is one more than the greatest level of a net that n looks at, where n may change behind others, and
-- else 0.
abbrev pub IsNetLevel : Netlist → (n level : ℕ) → Type 0
IsNetLevel net n level = IsLongest (λ m n. LooksAt net n m) (IsDerived net) n level

-- numbers of nets that rise along each look, from 1 of those that may change behind others
pub record RiseByLooks (net : Netlist) (nets : List ℕ) : Type 0 where
  pub from_one : (n : ℕ) → IsDerived net n → 1 ≤ slice_index nets n
  pub along : (m n : ℕ) → LooksAt net n m → slice_index nets m < slice_index nets n

-- Local facts, which speak of no chain: levels rise, those above 1 are one more than that of some net looked at, and no
-- net has one but those that may change behind others.
pub record ShowNetLevels (net : Netlist) (nets : List ℕ) : Type 0 where
  pub rise : RiseByLooks net nets
  pub derived : (n : ℕ) → slice_index nets n ≢ 0 → IsDerived net n
  pub from_below : (n below : ℕ) → slice_index nets n ≡ suc (suc below)
      → (m : ℕ) × LooksAt net n m × (slice_index nets m ≡ suc below)

-- ---- of processes

-- a process that may assign in a delta cycle: it is combinational, or has a reset and is sensitive to a driven net
abbrev pub MayActLater : Netlist → (p : ℕ) → Type 0
MayActLater net p =
    IsCombinational net p
    ⊎ (((reset : Reset) × HasReset net p reset) × ((n : ℕ) × Contains (process net p).wakes n × IsDriven net n))

-- below is the greatest level of a net that p is sensitive to, 0 without any
pub record IsGreatestWoken (net : Netlist) (p below : ℕ) : Type 0 where
  pub none_above : (n level : ℕ) → Contains (process net p).wakes n → IsNetLevel net n level → level ≤ below
  pub met : below ≢ 0 → (n : ℕ) × Contains (process net p).wakes n × IsNetLevel net n below

-- the level of a process that may assign in a delta cycle is one more than that; no other has one
abbrev pub IsLevelByNets : Netlist → (p : ℕ) → Option ℕ → Type 0
IsLevelByNets net p None = MayActLater net p → ⊥
IsLevelByNets net p (Some zero) = ⊥
IsLevelByNets net p (Some (suc below)) = MayActLater net p × IsGreatestWoken net p below

-- the levels of all processes and of all nets; greatest is that of a process, 0 where none has a level
pub record AreLevelsByNets (net : Netlist) (levels : List (Option ℕ)) (nets : List ℕ) (greatest : ℕ) : Type 0 where
  pub each_net : length nets ≡ length net.start
  pub of_nets : (n : ℕ) → n < length net.start → IsNetLevel net n (slice_index nets n)
  pub each_process : length levels ≡ length net.processes
  pub of_processes : (p : ℕ) → p < length net.processes → IsLevelByNets net p (slice_index_or levels p None)
  pub none_above : (p level : ℕ) → slice_index_or levels p None ≡ Some level → level ≤ greatest
  pub met : greatest ≢ 0 → (p : ℕ) × (slice_index_or levels p None ≡ Some greatest)

-- ---- the bound

-- The bound on a moment's delta cycles: the greatest level, and one more where a process is clocked, since registers
-- change in the first delta cycle.
abbrev pub bound_by_nets : Netlist → (greatest : ℕ) → ℕ
bound_by_nets net greatest = greatest + (if has_clocked net then 1 else 0)

-- greatest is the greatest level of a process as the netlist is judged, and most the bound that it gives
pub data IsBound (net : Netlist) (greatest most : ℕ) : Type 0 where
  ByProcesses : (levels : List (Option ℕ)) → (IsByNets net → ⊥) → AreLevels net levels greatest
      → most ≡ bound net greatest → IsBound net greatest most
  ByNets : (levels : List (Option ℕ)) (nets : List ℕ) → IsByNets net
      → AreLevelsByNets net levels nets greatest
      → most ≡ bound_by_nets net greatest → IsBound net greatest most

-- ---- the report

-- the lowest net of this level among some; none at level 0
abbrev pub IsLowest : Netlist → (IsAmong : ℕ → Type 0) → (level : ℕ) → Option ℕ → Type 0
IsLowest net IsAmong zero o = o ≡ None
IsLowest net IsAmong (suc below) None = ⊥
IsLowest net IsAmong (suc below) (Some n) =
    IsAmong n × IsNetLevel net n (suc below)
    × ((m : ℕ) → m < n → IsAmong m → IsNetLevel net m (suc below) → ⊥)

-- the level below that of a process; 0 of one without a level
abbrev pub level_below : Option ℕ → ℕ
level_below None = 0
level_below (Some level) = pred level

-- The levels of processes, and the lowest net of the level below that each is sensitive to; the levels of nets, and the
-- lowest net of the level below that each looks at; the clocks, and the bound.
pub record IsNetReport (net : Netlist) (levels from : List (Option ℕ)) (nets : List ℕ) (looks : List (Option ℕ))
    (clocks : List (ℕ × Edge)) (most : ℕ) : Type 0 where
  pub by_nets : IsByNets net
  pub greatest : ℕ
  pub levels_are : AreLevelsByNets net levels nets greatest
  pub each_from : length from ≡ length net.processes
  pub from_is : (p : ℕ) → p < length net.processes
      → IsLowest net (λ n. Contains (process net p).wakes n) (level_below (slice_index_or levels p None))
      (slice_index_or from p None)
  pub each_look : length looks ≡ length net.start
  pub looks_are : (n : ℕ) → n < length net.start
      → IsLowest net (λ m. LooksAt net n m) (pred (slice_index nets n)) (slice_index_or looks n None)
  pub clocks_are : AreClocks net clocks
  pub bound_is : most ≡ bound_by_nets net greatest
