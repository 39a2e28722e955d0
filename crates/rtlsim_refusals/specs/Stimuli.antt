-- What is written of the faults of a stimulus, of NAME=VALUE words and of a run.
use Rattle.std.specs.Prelude.{ℕ, zero, suc, ◌-◌, ◌||◌, Bool, true, false, if◌then◌else◌, List, [], ◌∷◌, ◌++◌, Option, Some, None, codes, decimal}
use Rattle.rtl_net.specs.Names.{net_name}
use Rattle.rtl_net.specs.Nets.{NetlistView}
use Rattle.fault_rules.specs.Rules.{words_of}
use Rattle.fault_rules.specs.declared.report.Place.{Place}
use Rattle.fault_rules.specs.declared.report.Place.TheVariants.{Line, Time}
use Rattle.fault_rules.specs.declared.report.Report.{Report}
use Rattle.fault_rules.specs.declared.report.Rule.{Rule}
use Rattle.fault_rules.specs.declared.report.Rule.TheVariants as rules
use Rattle.fault_rules.specs.declared.report.Subject.{Subject}
use Rattle.fault_rules.specs.declared.report.Subject.TheVariants.{Race}
use Rattle.fault_rules.specs.declared.settling.RunRule.TheVariants.{NoSettling}
use Rattle.fault_rules.specs.declared.stimuli.StimRule.TheVariants.{ClockAndSet, SetTwice}
use Rattle.rtl_stim_lines.specs.Lines.{ends_line}
use Rattle.rtlsim_refusals.specs.Explained.{title_text, help_line}
use Rattle.rtlsim_refusals.specs.Places.{line_after}
use Rattle.rtlsim_refusals.specs.Races.{first_setting, race_line}

-- ---- a line of a text

-- what stands behind so many lines
abbrev pub behind_lines : (count : ℕ) → List ℕ → List ℕ
behind_lines zero bytes = bytes
behind_lines (suc count) [] = []
behind_lines (suc count) (byte ∷ bytes) =
    if ends_line byte then behind_lines count bytes else behind_lines (suc count) bytes

-- the line of this number, from 1
abbrev pub numbered_line : (line : ℕ) → (text : List ℕ) → List ℕ
numbered_line line text = line_after (behind_lines (line - 1) text)

-- the same as a line, where there are both
abbrev pub shown : (line : Option ℕ) → (text : Option (List ℕ)) → List ℕ
shown (Some line) (Some text) = numbered_line line text ++ codes "\n"
shown _ _ = []

-- ---- two lines of one input that can't both stand

abbrev pub is_of_two : Rule → Bool
is_of_two (rules.Stim SetTwice) = true
is_of_two (rules.Stim ClockAndSet) = true
is_of_two _ = false

abbrev pub first_before : (line : Option ℕ) → (text : Option (List ℕ)) → Option ℕ
first_before (Some line) (Some text) = first_setting (numbered_line line text) text
first_before _ _ = None

-- where a line can't stand beside another of its input, the number of the first of the two
abbrev pub first_of : Rule → (line : Option ℕ) → (text : Option (List ℕ)) → Option ℕ
first_of rule line text = if is_of_two rule then first_before line text else None

-- ---- the parts of a paragraph

abbrev pub line_number : (line : Option ℕ) → List ℕ
line_number None = []
line_number (Some line) = codes ":" ++ decimal line

-- "FILE:LINE: ", or without a line
abbrev pub place_text : (file : List ℕ) → (line : Option ℕ) → List ℕ
place_text file line = file ++ line_number line ++ codes ": "

-- the same, and "LAYER NUMBER NAME: "
abbrev pub head : (file : List ℕ) → Rule → (line : Option ℕ) → List ℕ
head file rule line = place_text file line ++ title_text rule

-- a note at the first of two lines
abbrev pub first_noted : (file : List ℕ) → (text : Option (List ℕ)) → (first : Option ℕ) → List ℕ
first_noted file text None = []
first_noted file text (Some line) =
    place_text file (Some line) ++ codes "note: the first of the two\n" ++ shown (Some line) text

-- what stands behind the sentence: the line, the first of two, and the help
abbrev pub rest : (file : List ℕ) → (text : Option (List ℕ)) → Rule → (line first : Option ℕ) → List ℕ
rest file text rule line first =
    codes "\n" ++ shown line text ++ first_noted file text first ++ help_line (words_of rule).help.now

abbrev pub paragraph : (file : List ℕ) → (text : Option (List ℕ))
    → Rule → (line first : Option ℕ) → (sentence : List ℕ) → List ℕ
paragraph file text rule line first sentence = head file rule line ++ sentence ++ rest file text rule line first

-- ---- explanations

-- the line that a fault is in: of a stimulus, which is shown, or of a word
abbrev pub line_of : Place → Option ℕ
line_of (Line line) = Some line
line_of _ = None

-- a fault that names no net
abbrev pub plain_explained : (file : List ℕ) → (text : Option (List ℕ)) → Rule → Place → List ℕ
plain_explained file text rule place =
    paragraph file text rule (line_of place) (first_of rule (line_of place) text) (words_of rule).middle.now

-- a time, and what is said of a rule before it and behind it
abbrev pub time_text : Rule → (time : ℕ) → List ℕ
time_text rule time = (words_of rule).opening.now ++ decimal time ++ (words_of rule).middle.now

abbrev pub race_sentence : Rule → (time : ℕ) → (input clock : List ℕ) → List ℕ
race_sentence rule time input clock = time_text rule time ++ input ++ (words_of rule).closing.now ++ clock

-- a race, in the line that makes the input change, which is shown; in the stimulus where there is none
abbrev pub race_explained : (file : List ℕ) → (text : Option (List ℕ))
    → NetlistView → Rule → (time input clock : ℕ) → List ℕ
race_explained file text net rule time input clock =
    paragraph file text rule (race_line net time input text) None
    (race_sentence rule time (net_name net input) (net_name net clock))

abbrev pub stim_of : (file : List ℕ) → (text : Option (List ℕ)) → NetlistView → Rule → Place → Subject → List ℕ
stim_of file text net rule (Time time) (Race input clock) = race_explained file text net rule time input clock
stim_of file text net rule place subject = plain_explained file text rule place

abbrev pub stim_explained : (file : List ℕ) → (text : Option (List ℕ)) → NetlistView → Report → List ℕ
stim_explained file text net r = stim_of file text net r.rule r.place r.subject

abbrev pub names_nets : Subject → Bool
names_nets (Race input clock) = true
names_nets _ = false

-- a race takes memory for its names, and one of two lines for the words of lines
abbrev pub takes_memory : Report → Bool
takes_memory r = names_nets r.subject || is_of_two r.rule

-- a moment that doesn't settle
abbrev pub settle_explained : (file : List ℕ) → (time : ℕ) → List ℕ
settle_explained file time =
    paragraph file None (rules.Run NoSettling) None None (time_text (rules.Run NoSettling) time)
