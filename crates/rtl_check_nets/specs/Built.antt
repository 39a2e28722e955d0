-- The table of a netlist's nets while it is built, one process after another.
use Rattle.std.specs.Prelude.{◌≡◌, ◌⊎◌, ℕ, ◌<◌, true, List, [], ◌∷◌, Contains, length, Option}
use Rattle.rtl_model.specs.simulation.Netlist.{Netlist, HasPlace, IsCombinational, process, target}
use Rattle.rtl_model.specs.simulation.Accepted.{IsResetBy}
use Rattle.rtl_body_facts.specs.Reading.{is_in}
use Rattle.rtl_looks.specs.declared.hubs.Look.{Look}
use Rattle.rtl_looks.specs.declared.hubs.Hub.{Hub}
use Rattle.rtl_looks.specs.Denoting.{AreInOrder, IsThere, nets_of}
use Rattle.rtl_check_levels.specs.Feeding.{IsIn, Feeds, feeders_of}
use Rattle.rtl_check_nets.specs.declared.table.NetTable.{NetTable}
use Rattle.rtl_check_nets.specs.Building.{counts_at, fed_by}

-- The driver at this place of process q may change behind others, which are these nets: q is combinational, and its
-- entry looks at them, or it is a register, and they are the one net that resets it.
abbrev pub ChangesBehind : Netlist → (q place : ℕ) → List ℕ → Type 0
ChangesBehind net q place nets =
    (IsCombinational net q × (nets ≡ (process net q).looks place))
    ⊎ ((m : ℕ) × IsResetBy net q place m × (nets ≡ m ∷ []))

-- n counts, and what feeds it stands for these nets
pub record IsFedBy (net : Netlist) (hubs : List Hub) (t : NetTable) (n : ℕ) (nets : List ℕ) : Type 0 where
  pub counts : counts_at t n ≡ true
  pub look : Option Look
  pub fed : feeders_of t.rows.items n ≡ fed_by (length net.start) look
  pub there : IsThere hubs look
  pub behind : (m : ℕ) → is_in m (nets_of hubs look) ≡ is_in m nets

-- a process below p has such a driver of n
pub record IsDrivenBelow (net : Netlist) (p n : ℕ) : Type 0 where
  pub driver : ℕ
  pub place : ℕ
  pub nets : List ℕ
  pub below : driver < p
  pub drives : HasPlace net driver place
  pub net_is : target net driver place ≡ n
  pub changes : ChangesBehind net driver place nets

-- the table has the drivers of processes below p, and looks at hubs
pub record IsBuilt (net : Netlist) (hubs : List Hub) (p : ℕ) (t : NetTable) : Type 0 where
  pub each : length t.rows.items ≡ length net.start
  pub each_count : length t.counts.items ≡ length net.start
  pub there : (row : ℕ) → row < length net.start → IsIn t.rows.items row
  pub order : AreInOrder hubs
  pub driven : (q place : ℕ) (nets : List ℕ) → q < p → HasPlace net q place → ChangesBehind net q place nets
      → IsFedBy net hubs t (target net q place) nets
  pub counted : (n : ℕ) → counts_at t n ≡ true → IsDrivenBelow net p n
  pub feeding : (n row : ℕ) → Feeds t.rows.items row n → IsDrivenBelow net p n
