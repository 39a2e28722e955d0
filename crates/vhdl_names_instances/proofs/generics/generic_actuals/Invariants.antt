use Rattle.std.proofs.Common.{◌≡◌, length, map, drop}
use Rattle.vhdl_names_units.specs.views.Actuals.{each_actual}
use Rattle.vhdl_names_expressions.proofs.Each.{behind}
use Rattle.vhdl_names_instances.specs.Views.{actual_view, fixeds_view}
use Rattle.vhdl_names_instances.specs.steps.Generics as steps
use Rattle.vhdl_names_instances.proofs.generics.generic_actuals.Given as goal

abbrev pub invariant-loop-index : goal.invariant-loop-index
invariant-loop-index l = record {
  rest : steps.generic_actuals l.sight l.generics (map actual_view l.actuals)
      ≡ behind (fixeds_view l.all) (steps.generic_actuals l.sight (drop l.index l.generics) (drop l.index (map actual_view l.actuals)));
  long : length (each_actual l.all) ≡ l.index;
}
