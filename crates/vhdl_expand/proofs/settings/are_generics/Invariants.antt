use Rattle.std.proofs.Common.{◌≡◌, map, drop}
use Rattle.std.specs.Prelude.{flat_map}
use Rattle.std.specs.List.{list_all}
use Rattle.vhdl_names_units.specs.views.Declarations.{generics_view}
use Rattle.vhdl_expand_rules.specs.Tops.{is_generic}
use Rattle.vhdl_expand_rules.specs.views.Tops.{setting_view}
use Rattle.vhdl_expand.proofs.settings.are_generics.Given as goal

-- the settings that are left decide
abbrev pub invariant-loop-setting : goal.invariant-loop-setting
invariant-loop-setting l =
    list_all (is_generic (flat_map generics_view l.declarations)) (map setting_view (drop l.setting-index l.settings))
    ≡ list_all (is_generic (flat_map generics_view l.declarations)) (map setting_view l.settings)
