use Rattle.std.specs.Prelude.{◌-◌, ◌<◌, ◌≤◌, ℕ, map, take, length, slice_index_or}
use Rattle.byte_streams.specs.Written.{Goes}
use Rattle.rtl_net.specs.declared.signal.Signal.{Signal}
use Rattle.rtl_net.specs.Nets.{signal_view}
use Rattle.rtl_vcd_values.specs.Values.{numbered}
use Rattle.rtl_vcd.specs.Header.{variable_line_in}
use Rattle.rtl_vcd.proofs.heading.push_variables.Given as goal

-- the scope's names before this place are printed, and those of lower scopes are passed
abbrev pub invariant-loop-next : goal.invariant-loop-next
invariant-loop-next g l =
    Goes (g.W.Sink.state l.initial.out) (g.W.Sink.state l.out) (numbered (variable_line_in l.scope) 0 (map signal_view (take l.next l.signals)))
    × (l.next ≤ length l.signals)
    × ((i : ℕ) (d : Signal) → i < l.next → (slice_index_or l.signals i d).scope ≤ l.scope)
    × ((i : ℕ) (d : Signal) → l.next ≤ i → i < length l.signals → l.scope ≤ (slice_index_or l.signals i d).scope)

abbrev pub decreases-loop-next : goal.decreases-loop-next
decreases-loop-next g l = length l.signals - l.next
