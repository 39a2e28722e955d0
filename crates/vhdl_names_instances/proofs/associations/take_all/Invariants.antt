use Rattle.std.proofs.Common.{◌≡◌, false, map, drop}
use Rattle.vhdl_tree.specs.View.{association_view}
use Rattle.vhdl_names_units.specs.Once.{names_view}
use Rattle.vhdl_names_instances.specs.steps.Associations.{taking}
use Rattle.vhdl_names_instances.proofs.associations.take_all.Given as goal

abbrev pub invariant-loop-index : goal.invariant-loop-index
invariant-loop-index l =
    taking (names_view l.formals) 0 false (names_view l.fn.taken) (map association_view l.list)
    ≡ taking (names_view l.formals) l.index l.is_behind_named (names_view l.taken) (map association_view (drop l.index l.list))
