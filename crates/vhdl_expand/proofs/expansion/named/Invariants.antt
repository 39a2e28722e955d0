use Rattle.std.proofs.Common.{◌≡◌, map, drop}
use Rattle.std.specs.Prelude.{find, bytes_eq}
use Rattle.vhdl_names_rules.specs.units.Units as u
use Rattle.vhdl_names_units.specs.views.Units.{entity_view}
use Rattle.vhdl_expand.proofs.expansion.named.Given as goal

-- it is found among those that are left, if it is found
abbrev pub invariant-loop-unit : goal.invariant-loop-unit
invariant-loop-unit l =
    find (λ (e : u.Entity). bytes_eq e.name l.name) (map entity_view l.units) ≡ find (λ (e : u.Entity). bytes_eq e.name l.name) (map entity_view (drop l.unit-index l.units))
