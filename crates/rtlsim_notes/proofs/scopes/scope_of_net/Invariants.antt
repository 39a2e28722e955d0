use Rattle.std.proofs.Common.{◌≡◌, map, drop}
use Rattle.std.specs.Prelude.{find, option_map}
use Rattle.rtl_net.specs.Nets.{SignalView, signal_view}
use Rattle.rtlsim_notes.specs.Scopes.{has_net, scope_of_net}
use Rattle.rtlsim_notes.proofs.scopes.scope_of_net.Given as goal

-- the signals that are left decide
abbrev pub invariant-loop-signal : goal.invariant-loop-signal
invariant-loop-signal l =
    option_map (λ (s : SignalView). s.scope) (find (has_net l.number) (map signal_view (drop l.signal-index l.signals)))
    ≡ scope_of_net l.net l.number
