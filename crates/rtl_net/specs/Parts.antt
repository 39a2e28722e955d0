-- The netlist of given parts.
use Rattle.std.specs.Prelude.{ℕ, false, ◌<◌, ◌==◌, if◌then◌else◌, All, List, [], ◌∷◌, length, map}
use Rattle.std.specs.List.{range_with_len}
use Rattle.rtl_net.specs.declared.building.IdlePort.{IdlePort}
use Rattle.rtl_net.specs.declared.building.Parts.{Parts}
use Rattle.rtl_net.specs.Nets.{NetlistView, type_of, scope_view, signal_view}

-- what the idle ports of a net hold, in order
abbrev pub idle_at : List IdlePort → (net : ℕ) → List ℕ
idle_at [] n = []
idle_at (port ∷ ports) n = if port.net == n then port.start ∷ idle_at ports n else idle_at ports n

-- elaboration knows no language: what it gives is read by the narrow one until it's said otherwise
abbrev pub assembled : Parts → NetlistView
assembled parts = record {
  types = map type_of parts.kinds.items;
  starts = parts.starts.items;
  idle = map (idle_at parts.idle.items) (range_with_len 0 (length parts.kinds.items));
  inputs = parts.inputs.items;
  processes = parts.processes.items;
  scopes = map scope_view parts.scopes.items;
  signals = map signal_view parts.signals.items;
  wide = false;
}

-- each idle port is one of a net that is there
abbrev pub IdleAreThere : Parts → Type 0
IdleAreThere parts = All (λ (p : IdlePort). p.net < length parts.kinds.items) parts.idle.items
