use Rattle.std.proofs.Common.{◌≡◌, [], drop}
use Rattle.vhdl_names_units.specs.Once.{names_view}
use Rattle.vhdl_names_statements.specs.steps.Cases as steps
use Rattle.vhdl_names_statements.specs.steps.Told as told
use Rattle.vhdl_names_statements.proofs.choices.told_apart.Given as goal

-- what is left, behind the keys that are there, has the keys of the whole and is told as the whole
abbrev pub invariant-loop-index : goal.invariant-loop-index
invariant-loop-index l =
    (told.with_lists l.sight l.selected [] (steps.all_lists l.lists)
    ≡ told.with_lists l.sight l.selected (names_view l.keys) (steps.all_lists (drop l.index l.lists)))
    × (told.in_place l.sight l.selected [] (steps.all_lists l.lists)
    ≡ told.in_place l.sight l.selected (names_view l.keys) (steps.all_lists (drop l.index l.lists)))
