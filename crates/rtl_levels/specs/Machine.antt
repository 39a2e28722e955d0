-- What callers see of a machine: the netlist that it simulates, the values that all nets have
-- settled in, and marks of those that the last step may have changed.
use Rattle.std.specs.Prelude.{ℕ, List}
use Rattle.rtl_net.specs.Nets.{NetlistView}
use Rattle.rtl_net_groups.specs.Touching.{Chunks}

pub record MachineView : Type 0 where
  pub net : NetlistView
  pub values : List ℕ
  pub touched : Chunks
