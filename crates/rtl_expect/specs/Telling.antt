-- The line that tells the first expectation that doesn't hold, and the lines of all of them.
use Rattle.std.specs.Prelude.{ℕ, zero, suc, ◌-◌, nat_lt, if◌then◌else◌, List, [], ◌∷◌, ◌++◌, length, map, flat_map, Option, Some, None, option_map, codes, decimal, slice_get, slice_index, slice_index_or}
use Rattle.vhdl_values.specs.declared.scalar.Nine.TheVariants.{Dash}
use Rattle.vhdl_values.specs.Scalar.{letter_of, value_of_code}
use Rattle.rtl_net.specs.declared.signal.SignalKind.{SignalKind}
use Rattle.rtl_net.specs.declared.signal.SignalKind.TheVariants.{One, Vector, Enumeration, Integer, Boolean}
use Rattle.rtl_net.specs.Nets.{NetlistView, ScopeView, SignalView}
use Rattle.rtl_net.specs.Values.{value_text}
use Rattle.rtl_signal_names.specs.Names.{full_name}
use Rattle.rtl_stim_lines.specs.Lines.{Word, lines_of, words_of}
use Rattle.rtl_expect.specs.Differences.{Difference}

-- what was found, as an expectation would say it: an enumeration's position, or its value in words
abbrev pub found_text : SignalKind → (found : List ℕ) → List ℕ
found_text (Enumeration count) found = decimal (slice_index found 0)
found_text kind found = value_text kind found

-- `TIME NAME is VALUE`
abbrev pub found_at_time : NetlistView → (time : ℕ) → SignalView → (found : List ℕ) → List ℕ
found_at_time net time s found =
    decimal time ++ codes " " ++ full_name net.scopes s ++ codes " is " ++ found_text s.kind found

-- a number that no signal has is told as nothing
abbrev pub of_signal_found : NetlistView → (time : ℕ) → Option SignalView → (found : List ℕ) → List ℕ
of_signal_found net time None found = []
of_signal_found net time (Some s) found = found_at_time net time s found

-- what differs: a value that isn't the one expected, or a time behind the stop
abbrev pub difference_text : NetlistView → Difference → (found : Option (List ℕ)) → List ℕ
difference_text net d None = codes "2 AfterStop"
difference_text net d (Some found) =
    codes "1 Differs " ++ of_signal_found net d.time (slice_get net.signals d.signal) found

abbrev pub difference_line : NetlistView → Difference → List ℕ
difference_line net d =
    codes "rtlsim: expect " ++ difference_text net d d.found ++ codes " line " ++ decimal d.line ++ codes "\n"

-- the line of the first of these
abbrev pub first_line : NetlistView → List Difference → List ℕ
first_line net [] = []
first_line net (d ∷ ds) = difference_line net d

-- ---- all of them, each with what was expected

-- the name of the literal at a position in the type of a signal
abbrev pub LiteralNames : Type 0
LiteralNames = SignalView → (position : ℕ) → Option (List ℕ)

abbrev pub or_decimal : (position : ℕ) → (name : Option (List ℕ)) → List ℕ
or_decimal position None = decimal position
or_decimal position (Some name) = name

-- the literal at a position: its name, where that is known
abbrev pub literal_said : LiteralNames → SignalView → (position : ℕ) → List ℕ
literal_said names s position = or_decimal position (names s position)

-- what was found, with literals by name
abbrev pub found_said : LiteralNames → SignalView → (kind : SignalKind) → (found : List ℕ) → List ℕ
found_said names s (Enumeration count) found = literal_said names s (slice_index found 0)
found_said names s kind found = value_text kind found

-- any value is a `-`
abbrev pub wanted_letter : (code : Option ℕ) → ℕ
wanted_letter None = letter_of Dash
wanted_letter (Some code) = letter_of (value_of_code code)

abbrev pub wanted_literal : LiteralNames → SignalView → (position : Option ℕ) → List ℕ
wanted_literal names s None = codes "-"
wanted_literal names s (Some position) = literal_said names s position

-- all values, where each is wanted
abbrev pub all_wanted : (wanted : List (Option ℕ)) → Option (List ℕ)
all_wanted [] = Some []
all_wanted (None ∷ rest) = None
all_wanted (Some code ∷ rest) = option_map (λ more. code ∷ more) (all_wanted rest)

-- a code as a byte that is the same value's, or no value's
abbrev pub byte_of : (code : ℕ) → ℕ
byte_of code = if nat_lt code 256 then code else 255

-- of an integer or boolean: any, where even its last element may be any; no number; or this one
abbrev pub wanted_number : SignalKind → (all : Option (List ℕ)) → (last : Option ℕ) → List ℕ
wanted_number kind None None = codes "-"
wanted_number kind None (Some code) = codes "x"
wanted_number kind (Some values) last = value_text kind values

-- what was expected, in the same form
abbrev pub wanted_said : LiteralNames → SignalView → (kind : SignalKind) → (wanted : List (Option ℕ)) → List ℕ
wanted_said names s One wanted = map wanted_letter wanted
wanted_said names s (Vector left right) wanted = map wanted_letter wanted
wanted_said names s (Enumeration count) wanted = wanted_literal names s (slice_index_or wanted 0 None)
wanted_said names s kind wanted =
    wanted_number kind (all_wanted wanted) (slice_index_or wanted (length wanted - 1) None)

-- `NAME is VALUE, not VALUE`, or behind the stop `the run has stopped; VALUE was expected of NAME`
abbrev pub signal_said : LiteralNames → List ScopeView → SignalView
    → (found : Option (List ℕ)) → (wanted : List (Option ℕ)) → List ℕ
signal_said names scopes s None wanted =
    codes "the run has stopped; " ++ wanted_said names s s.kind wanted
    ++ codes " was expected of " ++ full_name scopes s
signal_said names scopes s (Some found) wanted =
    full_name scopes s ++ codes " is " ++ found_said names s s.kind found
    ++ codes ", not " ++ wanted_said names s s.kind wanted

-- a number that no signal has is told as nothing
abbrev pub of_signal_said : LiteralNames → NetlistView → Option SignalView
    → (found : Option (List ℕ)) → (wanted : List (Option ℕ)) → List ℕ
of_signal_said names net None found wanted = []
of_signal_said names net (Some s) found wanted = signal_said names net.scopes s found wanted

abbrev pub rule_said : (found : Option (List ℕ)) → List ℕ
rule_said None = codes "expect 2 AfterStop: at "
rule_said (Some found) = codes "expect 1 Differs: at "

-- `FILE:LINE: expect 1 Differs: at TIME ns NAME is VALUE, not VALUE`
abbrev pub difference_said : LiteralNames → (file : List ℕ) → NetlistView → Difference → List ℕ
difference_said names file net d =
    file ++ codes ":" ++ decimal d.line ++ codes ": " ++ rule_said d.found ++ decimal d.time ++ codes " ns "
    ++ of_signal_said names net (slice_get net.signals d.signal) d.found d.wanted ++ codes "\n"

abbrev pub more_said : (more : ℕ) → List ℕ
more_said zero = []
more_said (suc more) = codes "and " ++ decimal (suc more) ++ codes " more\n"

-- so many more there are
abbrev pub differences_said : LiteralNames → (file : List ℕ) → NetlistView → List Difference → (more : ℕ) → List ℕ
differences_said names file net ds more = flat_map (difference_said names file net) ds ++ more_said more

-- ---- lines that are refused

-- the word of this place, from 0, in the line of this number
abbrev pub word_in : (line place : ℕ) → (text : List ℕ) → Word
word_in line place text = slice_index_or (words_of (slice_index_or (lines_of text) (line - 1) [])) place []
