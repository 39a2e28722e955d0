-- The cuts of drivers, whose nets are there.
use Rattle.std.specs.Prelude.{◌≡◌, ℕ, ◌+◌, ◌<◌, ◌≤◌, All, List, [], length, slice_index, slice_index_or}
use Rattle.rtl_net_groups.specs.Cuts.{Cutting, AreCuts}
use Rattle.rtl_net_groups.specs.Groups.{Grouping}
use Rattle.rtl_net_groups.specs.declared.cuts.Cut.{Cut}
use Rattle.rtl_net.specs.Nets.{NetlistView}
use Rattle.rtl_kernel.specs.drivers.Transactions.{targets_of}

-- the nets of a cut are there, in its group
pub record IsCutThere (net : NetlistView) (groups : Grouping) (cut : Cut) : Type 0 where
  pub some : 0 < cut.len
  pub there : cut.net + cut.len ≤ length net.types
  pub in_group : (k : ℕ) → k < cut.len → slice_index groups.of_net (cut.net + k) ≡ cut.group

-- the nets of these drivers are there, and these are their cuts
pub record AreCutsThere (net : NetlistView) (groups : Grouping)
    (targets : List ℕ) (cuts : List Cut) (numbers : List ℕ) : Type 0 where
  pub there : All (λ n. n < length net.types) targets
  pub are_cuts : AreCuts groups.of_net targets cuts numbers

-- the same of the drivers of each process
pub record AreDriverCuts (net : NetlistView) (groups : Grouping) (c : Cutting) : Type 0 where
  pub each_process : length c.cuts ≡ length net.processes
  pub each : (p : ℕ) → p < length net.processes
      → AreCutsThere net groups (targets_of net.processes p)
      (slice_index_or c.cuts p []) (slice_index_or c.numbers p [])
