use Rattle.std.proofs.Common.{◌≡◌, ◌++◌, map, drop}
use Rattle.std.specs.Prelude.{filter}
use Rattle.rtl_net.specs.Nets.{SignalView, signal_view}
use Rattle.rtlsim_notes.specs.Scopes.{is_called, names_in}
use Rattle.rtlsim_notes.proofs.scopes.names_in.Given as goal

-- the names so far, and then those of the signals that are left, are all
abbrev pub invariant-loop-signal : goal.invariant-loop-signal
invariant-loop-signal l =
    map (λ n. n.now) l.names.items
    ++ map (λ (s : SignalView). s.name) (filter (is_called l.scope l.number) (map signal_view (drop l.signal-index l.signals)))
    ≡ names_in l.net l.scope l.number
