use Rattle.std.proofs.Common.{◌≡◌, ◌++◌, map, take}
use Rattle.std.specs.Prelude.{flat_map}
use Rattle.rtlsim_notes.specs.Notes.{list_notes, note_view}
use Rattle.vhdl_slips.specs.Words.{read_of}
use Rattle.rtlsim_notes.proofs.lists.push_lists.Given as goal

abbrev pub invariant-loop-process : goal.invariant-loop-process
invariant-loop-process l =
    map note_view l.notes.items
    ≡ map note_view l.initial.notes.items ++ flat_map (list_notes (read_of l.source) l.net) (take l.process-index l.processes)
