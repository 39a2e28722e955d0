-- Where the source and the stimulus both are the standard input, the first line that is `@` alone ends the source.
use Rattle.std.specs.Prelude.{ℕ, suc, Bool, true, ◌&&◌, if◌then◌else◌, List, [], ◌∷◌, Option, Some, None, take, drop, bytes_eq, codes}
use Rattle.std.specs.List.{after_first}
use Rattle.rtl_stim_lines.specs.Lines.{ends_line}
use Rattle.rtlsim.specs.Lines.{first_line_of}

-- a line that is `@` alone stands in front, a carriage return at its end aside
abbrev pub begins_mark : List ℕ → Bool
begins_mark text = bytes_eq (first_line_of text) (codes "@")

-- where the first such line starts: bytes are counted from k, and `starts` says whether a line starts in front
abbrev pub mark_from : ℕ → Bool → List ℕ → Option ℕ
mark_from k starts [] = None
mark_from k starts (byte ∷ bytes) =
    if starts && begins_mark (byte ∷ bytes) then Some k else mark_from (suc k) (ends_line byte) bytes

abbrev pub mark_of : List ℕ → Option ℕ
mark_of all = mark_from 0 true all

-- what stands before that line, and behind it; all is source where no line is `@`
abbrev pub halves_by : Option ℕ → List ℕ → List ℕ × List ℕ
halves_by None all = (all, [])
halves_by (Some at) all = (take at all, after_first ends_line (drop at all))

abbrev pub halves_of : List ℕ → List ℕ × List ℕ
halves_of all = halves_by (mark_of all) all
