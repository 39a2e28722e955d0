use Rattle.std.proofs.Common.{◌≡◌, List, map, drop}
use Rattle.vhdl_tree.specs.View as tree
use Rattle.vhdl_names_units.specs.views.Concurrent.{concurrents_view}
use Rattle.vhdl_names_expressions.proofs.Each.{behind}
use Rattle.vhdl_names_units.specs.Once.{names_view}
use Rattle.vhdl_names_rules.specs.Interfaces.{EntityView}
use Rattle.vhdl_names_rules.specs.problems.Broken.{any_of}
use Rattle.vhdl_names_rules.specs.problems.Concurrent as broken
use Rattle.vhdl_names_instances.specs.Table.{AreEntities, seens_view}
use Rattle.vhdl_names.specs.steps.Concurrents as steps
use Rattle.vhdl_names_instances.specs.steps.Instances.{instance}
use Rattle.vhdl_names.proofs.statements.+concurrent.Given as goal

-- what is left, on what is done, gives the whole and is told as the whole
abbrev pub invariant-statements-loop-item : goal.invariant-statements-loop-item
invariant-statements-loop-item l =
    (l.sight ≡ l.fn.sight)
    × ((steps.all (instance (names_view l.entities.names) (seens_view l.entities.formals)) l.fn.sight (map tree.concurrent_view l.list)
    ≡ behind (concurrents_view l.all) (steps.all (instance (names_view l.entities.names) (seens_view l.entities.formals)) l.fn.sight (map tree.concurrent_view (drop l.item-index l.list))))
    × ((es : List EntityView) → AreEntities l.entities es → any_of (broken.concurrent es l.fn.sight) (map tree.concurrent_view l.list)
    ≡ any_of (broken.concurrent es l.fn.sight) (map tree.concurrent_view (drop l.item-index l.list))))
