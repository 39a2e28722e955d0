-- Which signals may be shown of a netlist: all of its own, or some of them.
use Rattle.std.specs.Prelude.{ℕ, ◌<◌, ◌≤◌, All, List, length}
use Rattle.std.specs.List.{AllPairs}
use Rattle.rtl_model.specs.bodies.Fits.{IsWidth}
use Rattle.rtl_net.specs.Nets.{SignalView, NetlistView}

-- it has a vector's length, and its nets are among so many
pub record IsShown (nets : ℕ) (s : SignalView) : Type 0 where
  pub width : IsWidth (length s.nets)
  pub there : All (λ n. n < nets) s.nets

-- they have nets of the netlist and stand in its scopes, in order of these
pub record AreShown (net : NetlistView) (signals : List SignalView) : Type 0 where
  pub each : All (IsShown (length net.types)) signals
  pub scopes : All (λ (s : SignalView). s.scope < length net.scopes) signals
  pub order : AllPairs (λ (s t : SignalView). s.scope ≤ t.scope) signals
