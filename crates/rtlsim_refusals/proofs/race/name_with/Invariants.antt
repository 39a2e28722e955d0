use Rattle.std.proofs.Common.{◌≡◌, map, length}
use Rattle.rtl_net.specs.Nets.{signal_view}
use Rattle.rtlsim_refusals.specs.Races.{name_with}
use Rattle.rtlsim_refusals.proofs.race.name_with.Given as goal

abbrev pub invariant-loop-signals : goal.invariant-loop-signals
invariant-loop-signals l = name_with l.net (map signal_view l.signals) ≡ name_with l.net (map signal_view l.initial.signals)

abbrev pub decreases-loop-signals : goal.decreases-loop-signals
decreases-loop-signals l = length l.signals
