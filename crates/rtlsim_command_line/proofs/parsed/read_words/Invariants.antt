use Rattle.std.proofs.Common.{◌≡◌, ◌≤◌, ◌-◌, length, map, drop}
use Rattle.rtlsim_command_line.specs.Words.{nothing, parsed_view, reads, row_of, text_of}
use Rattle.rtlsim_command_line.proofs.parsed.read_words.Given as goal

-- what all the words are is what those that are left are, after what was read
abbrev pub invariant-loop-at : goal.invariant-loop-at
invariant-loop-at l =
    (reads (map row_of l.parts) nothing (map text_of l.words) ≡ reads (map row_of l.parts) (parsed_view l.given) (map text_of (drop l.at l.words))) × (l.at ≤ length l.words)

abbrev pub decreases-loop-at : goal.decreases-loop-at
decreases-loop-at l = length l.words - l.at
