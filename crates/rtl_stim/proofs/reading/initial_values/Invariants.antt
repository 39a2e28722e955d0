use Rattle.std.proofs.Common.{◌≡◌, map, take}
use Rattle.rtl_stim_lines.specs.View.{inputs_view, schedule_view}
use Rattle.rtl_stim_lines.specs.Times.{all_nets, value_at}
use Rattle.rtl_stim.proofs.reading.initial_values.Given as goal

-- the inputs so far
abbrev pub invariant-loop-place : goal.invariant-loop-place
invariant-loop-place l = l.values.items ≡ map (λ n. value_at (inputs_view l.inputs) (schedule_view l.schedule) n 0) (all_nets (take l.place (inputs_view l.inputs)))
