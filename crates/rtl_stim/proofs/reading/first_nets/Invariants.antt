use Rattle.std.proofs.Common.{◌≡◌, map, take}
use Rattle.rtl_stim_lines.specs.View.{inputs_view}
use Rattle.rtl_stim.specs.Pushes.{first_net}
use Rattle.rtl_stim.proofs.reading.first_nets.Given as goal

-- the inputs so far
abbrev pub invariant-loop-place : goal.invariant-loop-place
invariant-loop-place l = l.firsts.items ≡ map first_net (take l.place (inputs_view l.inputs))
