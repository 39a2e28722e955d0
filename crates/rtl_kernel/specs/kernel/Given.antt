-- Values that the nets are given from outside.
use Rattle.std.specs.Prelude.{◌≡◌, ℕ, List, [], map}
use Rattle.vhdl_values.specs.declared.scalar.Nine.{Nine}
use Rattle.rtl_net.specs.Nets.{NetlistView}
use Rattle.rtl_net.specs.declared.process.Process.{Process}
use Rattle.rtl_kernel.specs.drivers.Brought.{NotedNets}
use Rattle.rtl_kernel.specs.kernel.Simulation.{each_given}
use Rattle.rtl_kernel.specs.values.TwoValues.{AreChanged}
use Rattle.rtl_kernel.specs.wakes.Woken.{IsIndex, wakers_of}

-- the nets of this netlist at the start, where its inputs have these values
pub record AreFirst (net : NetlistView) (initial : List Nine) (nets : NotedNets) : Type 0 where
  pub net_is : nets.net ≡ net
  pub is_index : IsIndex (map (λ (p : Process). p.wakes.items) net.processes) (wakers_of nets.values.groups)
  pub no_event : nets.values.before ≡ nets.values.current
  pub current : AreChanged (each_given net.inputs initial) net.starts nets.values.current
  pub none_noted : nets.noted ≡ []

-- these changes are made, each of a net and its value
pub record AreGiven (changes : List (ℕ × ℕ)) (old new : NotedNets) : Type 0 where
  pub net_stays : new.net ≡ old.net
  pub groups_stay : new.values.groups ≡ old.values.groups
  pub before : new.values.before ≡ old.values.current
  pub current : AreChanged changes old.values.current new.values.current
  pub noted_stay : new.noted ≡ old.noted
