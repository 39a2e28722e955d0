use Rattle.std.proofs.Common.{◌≡◌, ◌++◌, map, option_map, drop}
use Rattle.vhdl_names_units.specs.views.Answers.{fixed_view}
use Rattle.vhdl_expand_declarations.specs.Generics.{actuals_view}
use Rattle.vhdl_expand.proofs.settings.lent.Given as goal

-- those that are lent so far, and those that are left
abbrev pub invariant-loop-actual : goal.invariant-loop-actual
invariant-loop-actual l = map (option_map fixed_view) l.actuals ≡ actuals_view l.list.items ++ map (option_map fixed_view) (drop l.actual-index l.actuals)
