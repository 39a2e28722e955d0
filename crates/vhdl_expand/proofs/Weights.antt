-- How much there is of concurrent statements: those within a generate are less than it.
use Rattle.std.specs.Prelude.{ℕ, ◌+◌, ◌*◌, [], ◌∷◌, Option, Some, None}
use Rattle.vhdl_names_rules.specs.units.Units.{Units, Architecture, Concurrent, process, instance, generate_for, generate_if, Concurrents, no_concurrents, concurrent}

abbrev mutual
  pub weight : Concurrent → ℕ
  weight (process p) = 1
  weight (instance x) = 2
  weight (generate_for at label r body) = 4 + weights body
  weight (generate_if at label t body) = 4 + weights body

  pub weights : Concurrents → ℕ
  weights no_concurrents = 0
  weights (concurrent x rest) = 1 + weight x + weights rest

abbrev pub architecture_weight : Option Architecture → ℕ
architecture_weight None = 0
architecture_weight (Some a) = weights a.statements

abbrev pub units_weight : Units → ℕ
units_weight [] = 0
units_weight (e ∷ es) = architecture_weight e.architecture + units_weight es

-- above the statements of so many levels of instances
abbrev pub levels_weight : Units → (levels : ℕ) → ℕ
levels_weight units levels = levels * (2 + units_weight units)
