use Rattle.std.proofs.Common.{◌≡◌, ◌-◌}
use Rattle.vhdl_tree.specs.View.{branches_view}
use Rattle.vhdl_parser_statements.specs.reader.Waveforms.{more_branches, more_branches_from}
use Rattle.vhdl_parser_statements.proofs.waveforms.more_branches.Given as goal

-- what is still to be read gives what was to be read
abbrev pub invariant-loop-turn : goal.invariant-loop-turn
invariant-loop-turn l = more_branches l.language l.levels (branches_view l.fn.found) l.fn.parser ≡ more_branches_from l.language l.levels (l._turn-end - l._turn) (branches_view l.found) l.parser
