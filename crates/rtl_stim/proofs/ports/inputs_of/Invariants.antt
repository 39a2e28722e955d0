use Rattle.std.proofs.Common.{◌≡◌, map, take, filter}
use Rattle.rtl_stim_lines.specs.View.{inputs_view}
use Rattle.rtl_stim.specs.Ports.{input_of, is_in_port}
use Rattle.rtl_stim.proofs.ports.inputs_of.Given as goal

-- the in ports so far
abbrev pub invariant-loop-signal : goal.invariant-loop-signal
invariant-loop-signal l = inputs_view l.inputs ≡ map (input_of l.net) (filter (is_in_port l.net) (take l.signal-index l.net.signals))
