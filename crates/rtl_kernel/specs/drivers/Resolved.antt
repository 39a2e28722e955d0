-- The nets that an update resolves (IEEE 1076-2008, 14.7.3.2).
use Rattle.std.specs.Prelude.{◌≡◌, ℕ, ◌<◌, List, [], length, slice_index, Contains}
use Rattle.rtl_model.specs.nets.CoreNetlist.{core_netlist}
use Rattle.rtl_model.specs.simulation.Netlist.{Netlist, sources_of}
use Rattle.rtl_model.specs.simulation.Cycle.{net_value}
use Rattle.rtl_net.specs.Nets.{flat}
use Rattle.rtl_kernel.specs.drivers.Brought.{NotedNets}
use Rattle.rtl_kernel.specs.values.TwoValues.{group_of}

-- the nets of which `is_one` holds have the resolution of their sources, and all others are as they
-- were
pub record AreResolved (net : Netlist) (drivers : List (List ℕ)) (is_one : ℕ → Type 0) (old new : List ℕ) : Type 0 where
  pub as_many : length new ≡ length old
  pub resolved : (n : ℕ) → n < length old → is_one n
      → slice_index new n ≡ net_value net drivers (sources_of net n) (slice_index old n)
  pub others : (n : ℕ) → n < length old → (is_one n → ⊥) → slice_index new n ≡ slice_index old n

-- the nets of the groups that were noted are resolved
pub record NotedAreResolved (drivers : List (List ℕ)) (old new : NotedNets) : Type 0 where
  pub net_stays : new.net ≡ old.net
  pub groups_stay : new.values.groups ≡ old.values.groups
  pub before_stays : new.values.before ≡ old.values.before
  pub none_noted : new.noted ≡ []
  pub current : AreResolved (core_netlist (flat old.net)) drivers (λ n. Contains old.noted (group_of old.values n))
      old.values.current new.values.current
