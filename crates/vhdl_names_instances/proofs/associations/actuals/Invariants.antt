use Rattle.std.proofs.Common.{◌≡◌, map, take}
use Rattle.vhdl_tree.specs.View.{association_view}
use Rattle.vhdl_names_units.specs.Once.{names_view}
use Rattle.vhdl_names_instances.specs.Views.{actuals_view}
use Rattle.vhdl_names_instances.specs.steps.Associations as steps
use Rattle.vhdl_names_instances.proofs.associations.actuals.Given as goal

abbrev pub invariant-loop-name : goal.invariant-loop-name
invariant-loop-name l =
    actuals_view l.all ≡ steps.actuals (map (λ k. k.items) (take l.name-index l.formals.keys)) (names_view l.taken) (map association_view l.list)
