use Rattle.std.proofs.Common.{◌≡◌, ◌≤◌, ◌*◌, length, take}
use Rattle.rtl_check.specs.Places.{places_from, widths}
use Rattle.rtl_recheck.proofs.variables.elements_of.Given as goal

abbrev pub invariant-loop-variable : goal.invariant-loop-variable
invariant-loop-variable l = record {
  are : l.elements ≡ length (places_from 0 (widths (take l.variable-index l.variables)));
  few : l.elements ≤ l.variable-index * 64;
}
