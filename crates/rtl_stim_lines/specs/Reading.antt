-- From the lines of a stimulus to the course of each input and the stop, or the first bad line.
use Rattle.std.specs.Prelude.{ℕ, suc, nat_le, not, ◌||◌, Bool, List, [], ◌∷◌, length, replicate, set, slice_index_or, Option, Some, None, is_some, Result, Ok, Err, if◌then◌else◌}
use Rattle.std.specs.Ordering.{nat_cmp}
use Rattle.std.specs.BTreeMap.{insert_entry}
use Rattle.vhdl_values.specs.declared.scalar.Nine.{Nine}
use Rattle.fault_rules.specs.declared.stimuli.StimRule.{StimRule}
use Rattle.fault_rules.specs.declared.stimuli.StimRule.TheVariants.{BadLine, NotAnInput, BadValue, SetTwice, ClockAndSet, TimeTooLarge}
use Rattle.rtl_stim_lines.specs.declared.faults.StimFault.{StimFault}
use Rattle.rtl_stim_lines.specs.declared.faults.StimFault.TheVariants.{InLine, NoStop}
use Rattle.rtl_stim_lines.specs.Lines.{Word, lines_of, words_of, says_nothing}
use Rattle.rtl_stim_lines.specs.Forms.{Form, At, Clock, Stop, form_of}
use Rattle.rtl_stim_lines.specs.Inputs.{Input, input_at, input_named, values_for}
use Rattle.rtl_stim_lines.specs.Courses.{Course, Sets, Ticks, is_set_at}

-- what lines have said: the course of each input, none of them set at first, and the stop
pub record Said : Type 0 where
  pub courses : List Course
  pub stop : Option ℕ

abbrev pub nothing_said : List Input → Said
nothing_said inputs = record { courses = replicate (length inputs) (Sets []); stop = None }

abbrev pub latest_time : ℕ
latest_time = 1_000_000_000_000_000

abbrev pub is_too_large : ℕ → Bool
is_too_large time = not (nat_le time latest_time)

-- ---- courses

-- An input is set once at a time, and no clock is set.
abbrev pub after_set : (time : ℕ) → (values : List Nine) → Course → Result Course StimRule
after_set time values (Ticks first half) = Err ClockAndSet
after_set time values (Sets sets) =
    if is_set_at sets time then Err SetTwice else Ok (Sets (insert_entry nat_cmp sets time values))

-- A clock has one line, and is never set.
abbrev pub after_clock : (first half : ℕ) → Course → Result Course StimRule
after_clock first half (Ticks first_before half_before) = Err SetTwice
after_clock first half (Sets (s ∷ sets)) = Err ClockAndSet
after_clock first half (Sets []) = Ok (Ticks first half)

abbrev pub course_at : Said → (input : ℕ) → Course
course_at said input = slice_index_or said.courses input (Sets [])

abbrev pub with_course : Said → (input : ℕ) → Result Course StimRule → Result Said StimRule
with_course said input (Err problem) = Err problem
with_course said input (Ok course) = Ok (record said { courses = set said.courses input course })

-- ---- `at`

abbrev pub set_values : Said → (input : ℕ) → (time : ℕ) → Option (List Nine) → Result Said StimRule
set_values said input time None = Err BadValue
set_values said input time (Some values) = with_course said input (after_set time values (course_at said input))

abbrev pub set_input : List Input → Said → Option ℕ → (time : ℕ) → (text : Word) → Result Said StimRule
set_input inputs said None time text = Err NotAnInput
set_input inputs said (Some input) time text =
    set_values said input time (values_for (input_at inputs input) text)

-- ---- `clock`

-- a clock is a scalar of the nine values
abbrev pub set_clock : List Input → Said → Option ℕ → (first half : ℕ) → Result Said StimRule
set_clock inputs said None first half = Err NotAnInput
set_clock inputs said (Some input) first half =
    if (input_at inputs input).is_scalar then with_course said input (after_clock first half (course_at said input))
    else Err BadValue

-- ---- `stop`

-- One line says when to stop.
abbrev pub with_stop : Said → (time : ℕ) → Result Said StimRule
with_stop said time =
    if is_some said.stop then Err BadLine
    else (if is_too_large time then Err TimeTooLarge else Ok (record said { stop = Some time }))

-- ---- lines

-- What is said once a line of this form is said too, or what is wrong with it.
abbrev pub after_form : List Input → Said → Option Form → Result Said StimRule
after_form inputs said None = Err BadLine
after_form inputs said (Some (At time name text)) =
    if is_too_large time then Err TimeTooLarge else set_input inputs said (input_named inputs name) time text
after_form inputs said (Some (Clock name first half)) =
    if is_too_large first || is_too_large half then Err TimeTooLarge
    else set_clock inputs said (input_named inputs name) first half
after_form inputs said (Some (Stop time)) = with_stop said time

abbrev pub after_line : List Input → Said → (line : List ℕ) → Result Said StimRule
after_line inputs said line =
    if says_nothing (words_of line) then Ok said else after_form inputs said (form_of (words_of line))

-- the fault of a problem in the line of this number
abbrev pub in_line : {A : Type 0} → ℕ → Result A StimRule → Result A StimFault
in_line number (Ok a) = Ok a
in_line number (Err problem) = Err (InLine problem number)

-- What is said once this line is said too, unless a line before it was bad.
abbrev pub one_more : List Input → (number : ℕ) → (line : List ℕ) → Result Said StimFault → Result Said StimFault
one_more inputs number line (Err fault) = Err fault
one_more inputs number line (Ok said) = in_line number (after_line inputs said line)

-- What these lines say after what is said so far, or the first that is bad. The first line has this number.
abbrev pub after_lines : List Input → (number : ℕ) → List (List ℕ) → Result Said StimFault → Result Said StimFault
after_lines inputs number [] so_far = so_far
after_lines inputs number (line ∷ lines) so_far =
    after_lines inputs (suc number) lines (one_more inputs number line so_far)

-- ---- the whole

-- the course of each input, and the time of the stop
pub record Schedule : Type 0 where
  pub courses : List Course
  pub stop : ℕ

abbrev pub with_end : List Course → Option ℕ → Result Schedule StimFault
with_end courses None = Err NoStop
with_end courses (Some time) = Ok (record { courses = courses; stop = time })

abbrev pub ended : Result Said StimFault → Result Schedule StimFault
ended (Err fault) = Err fault
ended (Ok said) = with_end said.courses said.stop

-- What a text says of these inputs, or its first bad line; that there is no stop comes after all lines.
abbrev pub schedule_of : List Input → (text : List ℕ) → Result Schedule StimFault
schedule_of inputs text = ended (after_lines inputs 1 (lines_of text) (Ok (nothing_said inputs)))
