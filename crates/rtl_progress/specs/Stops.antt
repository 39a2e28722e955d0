-- When a stimulus says to stop.
use Rattle.std.specs.Prelude.{ℕ, nat_le, List, [], ◌∷◌, Option, Some, None, unwrap_or, if◌then◌else◌}
use Rattle.std.specs.Option.{option_or}
use Rattle.rtl_stim_lines.specs.Lines.{lines_of, words_of}
use Rattle.rtl_stim_lines.specs.Forms.{Form, Stop, form_of}
use Rattle.rtl_stim_lines.specs.Reading.{latest_time}

-- the time at which a line of this form says to stop, if it does
abbrev pub stop_said : Option Form → Option ℕ
stop_said (Some (Stop time)) = if nat_le time latest_time then Some time else None
stop_said _ = None

abbrev pub stop_in : (line : List ℕ) → Option ℕ
stop_in line = stop_said (form_of (words_of line))

-- that of the first line that says one
abbrev pub first_stop : (lines : List (List ℕ)) → Option ℕ
first_stop [] = None
first_stop (line ∷ lines) = option_or (stop_in line) (first_stop lines)

-- that of a text, 0 where no line of it says one
abbrev pub stop_of : (text : List ℕ) → ℕ
stop_of text = unwrap_or (first_stop (lines_of text)) 0
