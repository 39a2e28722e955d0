use Rattle.std.proofs.Common.{◌≡◌, ◌++◌, map, option_map, drop}
use Rattle.vhdl_tree.specs.declared.expression.Identifier.{Identifier}
use Rattle.vhdl_names_rules.specs.units.Units.{Generic}
use Rattle.vhdl_names_units.specs.views.Answers.{fixed_view}
use Rattle.vhdl_names_units.specs.views.Declarations.{generics_view}
use Rattle.vhdl_expand_rules.specs.Tops.{set_actual}
use Rattle.vhdl_expand_rules.specs.views.Tops.{setting_view}
use Rattle.vhdl_expand.proofs.settings.add_actuals.Given as goal

-- the actuals so far, and those of the names that are left
abbrev pub invariant-loop-name : goal.invariant-loop-name
invariant-loop-name l =
    map (option_map fixed_view) l.fn.actuals.items ++ map (λ (g : Generic). set_actual (map setting_view l.settings) g.name g.at) (generics_view l.declaration)
    ≡ map (option_map fixed_view) l.actuals.items ++ map (λ (n : Identifier). set_actual (map setting_view l.settings) n.text.items n.at) (drop l.name-index l.name-items)
