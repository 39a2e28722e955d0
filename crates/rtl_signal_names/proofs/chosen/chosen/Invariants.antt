use Rattle.std.specs.Prelude.{◌≡◌, map, take, filter}
use Rattle.rtl_net.specs.Nets.{scope_view, signal_view}
use Rattle.rtl_signal_names.specs.Chosen.{is_chosen}
use Rattle.rtl_signal_names.proofs.Choosing.{texts}
use Rattle.rtl_signal_names.proofs.chosen.chosen.Given as goal

-- those of the signals before this one are there
abbrev pub invariant-loop-number : goal.invariant-loop-number
invariant-loop-number l = map signal_view l.found.items ≡ filter (is_chosen (texts l.names) (map scope_view l.scopes)) (take l.number (map signal_view l.signals))
