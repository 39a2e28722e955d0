-- What contracts see of where concurrent statements stand.
use Rattle.std.specs.Prelude.{ℕ, ℤ, List}
use Rattle.vhdl_expand_rules.specs.Expansion as definition
use Rattle.vhdl_expand_declarations.specs.Views.{declared_view, within_generates}
use Rattle.vhdl_expand.specs.declared.spot.Spot.{Spot}

-- within generates whose parameters have these values, and whose labels are these
abbrev pub within : definition.Spot → List ℤ → List ℕ → definition.Spot
within at values prefix = record { site = within_generates at.site values; prefix = prefix }

abbrev pub spot_view : Spot → definition.Spot
spot_view s =
    record { site = within_generates (declared_view s.declared.now).site s.generates.now; prefix = s.prefix.now }
