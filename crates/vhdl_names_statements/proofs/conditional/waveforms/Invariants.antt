use Rattle.std.proofs.Common.{◌≡◌, map, drop}
use Rattle.vhdl_names_rules.specs.Rules.{each}
use Rattle.vhdl_tree.specs.View as tree
use Rattle.vhdl_names_units.specs.views.Sequential as views
use Rattle.vhdl_names_rules.specs.problems.Broken.{any_of}
use Rattle.vhdl_names_statements.specs.steps.Told as told
use Rattle.vhdl_names_units.specs.Lists.{in_turn, one_more}
use Rattle.vhdl_names_statements.specs.steps.Sequential as steps
use Rattle.vhdl_names_statements.proofs.conditional.waveforms.Given as goal

-- what is left, on what is done, gives the whole, and what it breaks first, the whole breaks first
abbrev pub invariant-loop-item : goal.invariant-loop-item
invariant-loop-item l =
    (each (steps.waveform l.sight l.is_variable (tree.name_view l.target)) (map tree.branch_view l.list)
    ≡ in_turn (one_more (steps.waveform l.sight l.is_variable (tree.name_view l.target))) (views.branches_view l.all) (map tree.branch_view (drop l.item-index l.list)))
    × (any_of (told.waveform l.sight l.is_variable (tree.name_view l.target)) (map tree.branch_view l.list)
    ≡ any_of (told.waveform l.sight l.is_variable (tree.name_view l.target)) (map tree.branch_view (drop l.item-index l.list)))
