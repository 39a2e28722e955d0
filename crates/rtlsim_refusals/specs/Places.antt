-- Where a byte stands in a text, as editors tell it: lines and columns count from 1, and each byte is a column, a
-- tab too.
use Rattle.std.specs.Prelude.{ℕ, ◌+◌, ◌==◌, ◌&&◌, not, Bool, if◌then◌else◌, List, [], ◌∷◌, ◌++◌, take, codes, flat_map}
use Rattle.std.specs.List.{list_all, prefix_len}
use Rattle.rtl_stim_lines.specs.Lines.{ends_line, without_return}
use Rattle.rtlsim_refusals.specs.declared.place.Position.{Position}
use Rattle.vhdl_source_files.specs.Files.{Spot, after, before}
use Rattle.vhdl_source_files.specs.Cutting.{shown_before, shown_after}
use Rattle.vhdl_lexer.specs.Bytes.{is_separator}

-- where the byte behind these bytes stands, the first of which has this line and column; a line feed ends a line
abbrev pub position_from : (line column : ℕ) → List ℕ → Position
position_from line column [] = record { line = line; column = column }
position_from line column (byte ∷ bytes) =
    if ends_line byte then position_from (line + 1) 1 bytes else position_from line (column + 1) bytes

abbrev pub position_behind : (before : List ℕ) → Position
position_behind before = position_from 1 1 before

-- ---- the line of a byte, by what stands before the byte and what stands from it on

-- what stands behind the last line feed of `bytes`, or `line` where there is none
abbrev pub line_within : (line bytes : List ℕ) → List ℕ
line_within line [] = line
line_within line (byte ∷ bytes) = if ends_line byte then line_within bytes bytes else line_within line bytes

-- what stands of its line before it
abbrev pub line_before : (before : List ℕ) → List ℕ
line_before before = line_within before before

abbrev pub in_line : ℕ → Bool
in_line byte = not (ends_line byte)

-- what stands of its line from it on, without the carriage return at the line's end
abbrev pub line_after : (after : List ℕ) → List ℕ
line_after after = without_return (take (prefix_len in_line after) after)

-- as wide as the byte: a tab stays a tab
abbrev pub blank : ℕ → List ℕ
blank byte = if byte == 9 then codes "\t" else codes " "

-- the two halves of a line as they are shown, and a mark under the byte at which they meet
abbrev pub halves_shown : (before after : List ℕ) → List ℕ
halves_shown before after =
    shown_before before after ++ shown_after before after ++ codes "\n"
    ++ (flat_map blank (shown_before before after) ++ codes "^\n")

-- the line of a byte of a file, and the mark
abbrev pub line_shown : Spot → List ℕ
line_shown s = halves_shown (line_before (before s)) (line_after (after s))

-- separators alone
abbrev pub is_blank : List ℕ → Bool
is_blank bytes = list_all is_separator bytes

-- nothing stands before the byte in its line, but something in the lines before
abbrev pub begins_line : Spot → Bool
begins_line s = is_blank (line_before (before s)) && not (is_blank (before s))
