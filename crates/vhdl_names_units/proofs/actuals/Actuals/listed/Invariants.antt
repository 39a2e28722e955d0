use Rattle.std.proofs.Common.{◌≡◌, map, option_map, take}
use Rattle.std.specs.Prelude.{flat_map}
use Rattle.vhdl_names_units.specs.views.Actuals.{behind_open}
use Rattle.vhdl_names_units.proofs.actuals.Actuals.listed.Given as goal

-- the formals so far
abbrev pub invariant-loop-actual : goal.invariant-loop-actual
invariant-loop-actual g l = map (option_map (λ value. value.now)) l.list.items ≡ flat_map behind_open (take l.actual-index l.actual-items)
