use Rattle.std.specs.Prelude.{◌≡◌, ◌+◌, drop}
use Rattle.rtl_signal_names.specs.Chosen.{idle_from}
use Rattle.rtl_signal_names.proofs.Choosing.{texts}
use Rattle.rtl_signal_names.proofs.chosen.idle_place.Given as goal

-- each name before this one chooses something
abbrev pub invariant-loop-place : goal.invariant-loop-place
invariant-loop-place l = idle_from 1 (texts l.names) l.net ≡ idle_from (l.place + 1) (texts (drop l.place l.names)) l.net
