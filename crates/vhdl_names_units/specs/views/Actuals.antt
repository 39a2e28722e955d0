-- Actuals of the code.
use Rattle.std.specs.Prelude.{List, [], ◌∷◌, ◌++◌, flat_map, replicate, Option, Some, None}
use Rattle.vhdl_names_units.specs.declared.actuals.Actual.{Actual}
use Rattle.vhdl_names_units.specs.declared.actuals.Actuals.{Actuals}

-- an actual, and the formals before it that have none
abbrev pub behind_open : {A : Type 0} → Actual A → List (Option A)
behind_open x = replicate x.open None ++ Some x.value ∷ []

-- the actual of each formal, if it has one
abbrev pub each_actual : {A : Type 0} → Actuals A → List (Option A)
each_actual actuals = flat_map behind_open actuals.given.items ++ replicate actuals.open None
