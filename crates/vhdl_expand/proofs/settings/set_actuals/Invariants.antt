use Rattle.std.proofs.Common.{◌≡◌, ◌++◌, map, option_map, drop}
use Rattle.std.specs.Prelude.{flat_map}
use Rattle.vhdl_names_rules.specs.units.Units.{Generic}
use Rattle.vhdl_names_units.specs.views.Answers.{fixed_view}
use Rattle.vhdl_names_units.specs.views.Declarations.{generics_view}
use Rattle.vhdl_expand_rules.specs.Tops.{set_actual}
use Rattle.vhdl_expand_rules.specs.views.Tops.{setting_view}
use Rattle.vhdl_expand.proofs.settings.set_actuals.Given as goal

-- the actuals so far, and those of the declarations that are left
abbrev pub invariant-loop-declaration : goal.invariant-loop-declaration
invariant-loop-declaration l =
    map (λ (g : Generic). set_actual (map setting_view l.settings) g.name g.at) (flat_map generics_view l.declarations)
    ≡ map (option_map fixed_view) l.actuals.items
    ++ map (λ (g : Generic). set_actual (map setting_view l.settings) g.name g.at) (flat_map generics_view (drop l.declaration-index l.declarations))
