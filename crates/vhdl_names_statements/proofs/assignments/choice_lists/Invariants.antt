use Rattle.std.proofs.Common.{◌≡◌, map, take}
use Rattle.vhdl_tree.specs.View as tree
use Rattle.vhdl_names_statements.specs.steps.Cases as cases
use Rattle.vhdl_names_statements.specs.steps.Concurrent as steps
use Rattle.vhdl_names_statements.proofs.assignments.choice_lists.Given as goal

abbrev pub invariant-loop-waveform : goal.invariant-loop-waveform
invariant-loop-waveform l = cases.all_lists l.lists.items ≡ steps.choice_lists (map tree.waveform_view (take l.waveform-index l.waveforms))
