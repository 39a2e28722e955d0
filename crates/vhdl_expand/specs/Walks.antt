-- What contracts see of the units in which a walk goes.
use Rattle.std.specs.Prelude.{◌≡◌, ℕ, map, slice_get, Some}
use Rattle.vhdl_names_rules.specs.units.Units.{Units, Entity}
use Rattle.vhdl_names_units.specs.views.Units.{entity_view}
use Rattle.vhdl_expand.specs.declared.walk.Walk.{Walk}

abbrev pub units_of : Walk → Units
units_of w = map entity_view w.units.now

-- an entity is one of the units
abbrev pub IsAmong : Units → Entity → Type 0
IsAmong units e = (k : ℕ) × (slice_get units k ≡ Some e)
