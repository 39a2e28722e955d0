use Rattle.std.specs.Prelude.{flat_map, take}
use Rattle.byte_streams.specs.Written.{Goes}
use Rattle.rtl_run.specs.Evaluated.{port_text}
use Rattle.rtl_run.proofs.ports.push_ports.Given as goal

-- the lines of the signals before this one went out
abbrev pub invariant-loop-signal : goal.invariant-loop-signal
invariant-loop-signal g l =
    Goes (g.W.Sink.state l.initial.out) (g.W.Sink.state l.out) (flat_map (port_text l.net l.values) (take l.signal-index l.net.signals))
