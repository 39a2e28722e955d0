-- Which line of a stimulus makes an input change at a time, and which is the first of two that can't both stand.
use Rattle.std.specs.Prelude.{ℕ, suc, ◌==◌, ◌&&◌, nat_le, Bool, true, false, if◌then◌else◌, List, [], ◌∷◌, Option, Some, None}
use Rattle.std.specs.List.{list_any}
use Rattle.std.specs.Str.{str_eq_ignore_ascii_case}
use Rattle.rtl_net.specs.Nets.{NetlistView, SignalView}
use Rattle.rtl_stim_lines.specs.Forms.{Form, At, Clock, form_of}
use Rattle.rtl_stim_lines.specs.Lines.{lines_of, words_of}
use Rattle.rtl_stim_lines.specs.Reading.{latest_time}

-- ---- the port

-- the name of the first of these signals that has the net, empty where none has it
abbrev pub name_with : (net : ℕ) → List SignalView → List ℕ
name_with net [] = []
name_with net (signal ∷ signals) = if list_any (λ n. n == net) signal.nets then signal.name else name_with net signals

-- the port that an input's net is an element of: the top's ports are declared before all else
abbrev pub port_of : NetlistView → (input : ℕ) → List ℕ
port_of net input = name_with input net.signals

-- ---- the line

-- the time that is asked for, or any where none is
abbrev pub is_at : (asked : Option ℕ) → (time : ℕ) → Bool
is_at None time = true
is_at (Some asked) time = time == asked

-- a line of this form sets the port at the time, or makes it a clock; letters are of either case
abbrev pub form_sets : (port : List ℕ) → (asked : Option ℕ) → Option Form → Bool
form_sets port asked (Some (At time name value)) =
    (nat_le time latest_time && is_at asked time) && str_eq_ignore_ascii_case name port
form_sets port asked (Some (Clock name first half)) = str_eq_ignore_ascii_case name port
form_sets port asked _ = false

abbrev pub line_sets : (port : List ℕ) → (asked : Option ℕ) → (line : List ℕ) → Bool
line_sets port asked line = form_sets port asked (form_of (words_of line))

-- the number of the first of these lines that does, the first of which has this number
abbrev pub line_among : (port : List ℕ) → (asked : Option ℕ) → (number : ℕ) → List (List ℕ) → Option ℕ
line_among port asked number [] = None
line_among port asked number (line ∷ lines) =
    if line_sets port asked line then Some number else line_among port asked (suc number) lines

abbrev pub setting_line : (port : List ℕ) → (asked : Option ℕ) → (text : List ℕ) → Option ℕ
setting_line port asked text = line_among port asked 1 (lines_of text)

-- the line that makes an input change at a time, where there is a text
abbrev pub race_line : NetlistView → (time input : ℕ) → (text : Option (List ℕ)) → Option ℕ
race_line net time input None = None
race_line net time input (Some text) = setting_line (port_of net input) (Some time) text

-- ---- two lines of one input that can't both stand

-- what a line of this form sets, and when; a clock at any time
abbrev pub setting_of : Option Form → Option (List ℕ × Option ℕ)
setting_of (Some (At time name value)) = if nat_le time latest_time then Some (name, Some time) else None
setting_of (Some (Clock name first half)) = Some (name, None)
setting_of form = None

abbrev pub first_with : Option (List ℕ × Option ℕ) → (text : List ℕ) → Option ℕ
first_with None text = None
first_with (Some setting) text = setting_line setting.0 setting.1 text

-- the number of the first line that sets at its time what this line sets, or makes it a clock
abbrev pub first_setting : (line text : List ℕ) → Option ℕ
first_setting line text = first_with (setting_of (form_of (words_of line))) text
