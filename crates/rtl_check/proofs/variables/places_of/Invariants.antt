use Rattle.std.proofs.Common.{◌≡◌, take}
use Rattle.rtl_check.specs.Places.{places_from, widths}
use Rattle.rtl_check.proofs.variables.places_of.Given as goal

abbrev pub invariant-loop-variable : goal.invariant-loop-variable
invariant-loop-variable l = l.places.items ≡ places_from 0 (take l.variable (widths l.variables))
