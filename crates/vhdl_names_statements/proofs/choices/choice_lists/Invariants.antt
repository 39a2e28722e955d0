use Rattle.std.proofs.Common.{◌≡◌, map, take}
use Rattle.vhdl_tree.specs.View as tree
use Rattle.vhdl_names_statements.specs.steps.Cases as steps
use Rattle.vhdl_names_statements.proofs.choices.choice_lists.Given as goal

abbrev pub invariant-loop-alternative : goal.invariant-loop-alternative
invariant-loop-alternative l = steps.all_lists l.lists.items ≡ steps.choice_lists (map tree.alternative_view (take l.alternative-index l.alternatives))
