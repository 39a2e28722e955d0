use Rattle.std.proofs.Common.{◌≡◌, ◌≤◌, ◌-◌, ◌+◌, length, drop, vec_len, Ok}
use Rattle.rtl_stim_lines.specs.Lines.{lines_of}
use Rattle.rtl_stim_lines.specs.Reading.{after_lines}
use Rattle.rtl_stim_lines.specs.View.{inputs_view, said_view}
use Rattle.rtl_stim_lines.proofs.reading.Said.read_lines.Given as goal

-- what all lines say is what those that are left say, after what is said
abbrev pub invariant-loop-end : goal.invariant-loop-end
invariant-loop-end l =
    (after_lines (inputs_view l.inputs) 1 (lines_of l.text) (Ok (said_view l.initial.self)) ≡ after_lines (inputs_view l.inputs) l.line (lines_of (drop l.at l.text)) (Ok (said_view l.self)))
    × (vec_len l.self.courses ≡ length (inputs_view l.inputs)) × (l.at ≤ length l.text) × (l.line ≤ l.at + 1)

abbrev pub decreases-loop-end : goal.decreases-loop-end
decreases-loop-end l = length l.text - l.at
