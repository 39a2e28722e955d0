use Rattle.std.proofs.Common.{◌≡◌, drop}
use Rattle.std.specs.Prelude.{flat_map}
use Rattle.vhdl_names_units.specs.views.Declarations.{generics_view}
use Rattle.vhdl_expand_rules.specs.Tops.{is_generic}
use Rattle.vhdl_expand_rules.specs.views.Tops.{setting_view}
use Rattle.vhdl_expand.proofs.settings.is_generic.Given as goal

-- the declarations that are left decide
abbrev pub invariant-loop-declaration : goal.invariant-loop-declaration
invariant-loop-declaration l =
    is_generic (flat_map generics_view l.declarations) (setting_view l.setting) ≡ is_generic (flat_map generics_view (drop l.declaration-index l.declarations)) (setting_view l.setting)
