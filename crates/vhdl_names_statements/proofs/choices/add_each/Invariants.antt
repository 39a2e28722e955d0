use Rattle.std.proofs.Common.{◌≡◌, map, drop}
use Rattle.vhdl_tree.specs.View as tree
use Rattle.vhdl_names_units.specs.Once.{names_view}
use Rattle.vhdl_names_statements.specs.steps.Told as told
use Rattle.vhdl_names_statements.proofs.choices.add_each.Given as goal

-- what is left, behind the keys that are there, has the keys of the whole and is told as the whole
abbrev pub invariant-loop-written : goal.invariant-loop-written
invariant-loop-written l =
    (told.with_list l.sight l.selected (names_view l.fn.keys) (map tree.choice_view l.list)
    ≡ told.with_list l.sight l.selected (names_view l.keys) (map tree.choice_view (drop l.written-index l.list)))
    × (told.each_once l.sight l.selected (names_view l.fn.keys) (map tree.choice_view l.list)
    ≡ told.each_once l.sight l.selected (names_view l.keys) (map tree.choice_view (drop l.written-index l.list)))
