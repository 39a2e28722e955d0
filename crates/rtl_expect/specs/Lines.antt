-- What the lines of a file of expected values say: `at TIME NAME VALUE`, times in ns. Lines and words are those of
-- a stimulus.
use Rattle.std.specs.Prelude.{ℕ, suc, nat_lt, List, [], ◌∷◌, Option, Some, None, Result, Ok, Err, if◌then◌else◌}
use Rattle.rtl_net.specs.Nets.{NetlistView, SignalView}
use Rattle.rtl_stim_lines.specs.Lines.{Word, lines_of, words_of, says_nothing}
use Rattle.rtl_stim_lines.specs.Forms.{Form, At, Clock, Stop, form_of}
use Rattle.rtl_stim_lines.specs.Reading.{is_too_large}
use Rattle.fault_rules.specs.declared.expecting.ExpectRule.{ExpectRule}
use Rattle.fault_rules.specs.declared.expecting.ExpectRule.TheVariants.{BadLine, NotASignal, BadValue, TimeTooLarge}
use Rattle.rtl_expect.specs.declared.faults.ExpectFault.{ExpectFault}
use Rattle.rtl_expect.specs.declared.faults.ExpectFault.TheVariants.{InLine}
use Rattle.rtl_expect.specs.declared.expected.Wanted.{Wanted}
use Rattle.rtl_signal_names.specs.Names.{signal_named}
use Rattle.rtl_expect.specs.Expected.{Expectation, Positions, value_wanted}

-- ---- order

-- Expectations stand in order of time, and those of one time in order of their lines: one more stands behind those of
-- its time.
abbrev pub placed : Expectation → List Expectation → List Expectation
placed e [] = e ∷ []
placed e (x ∷ xs) = if nat_lt e.time x.time then e ∷ x ∷ xs else x ∷ placed e xs

-- ---- lines

abbrev pub with_wanted : (line time signal : ℕ) → Option (List Wanted) → Result Expectation ExpectRule
with_wanted line time signal None = Err BadValue
with_wanted line time signal (Some wanted) = Ok (record { line = line; time = time; signal = signal; wanted = wanted })

abbrev pub of_signal : Positions → (line time : ℕ) → Option (ℕ × SignalView)
    → (text : Word) → Result Expectation ExpectRule
of_signal positions line time None text = Err NotASignal
of_signal positions line time (Some found) text = with_wanted line time found.0 (value_wanted positions found.1 text)

-- what the line of this number expects by its form, or what is wrong with it
abbrev pub expected_in : Positions → NetlistView → (line : ℕ) → Option Form → Result Expectation ExpectRule
expected_in positions net line (Some (At time name text)) =
    if is_too_large time then Err TimeTooLarge else of_signal positions line time (signal_named net name) text
expected_in positions net line (Some (Clock name first half)) = Err BadLine
expected_in positions net line (Some (Stop time)) = Err BadLine
expected_in positions net line None = Err BadLine

abbrev pub with_expected : List Expectation → Result Expectation ExpectRule → Result (List Expectation) ExpectRule
with_expected so_far (Err problem) = Err problem
with_expected so_far (Ok e) = Ok (placed e so_far)

-- what is expected once this line is read too, or what is wrong with it
abbrev pub after_line : Positions → NetlistView → List Expectation → (number : ℕ)
    → (line : List ℕ) → Result (List Expectation) ExpectRule
after_line positions net so_far number line =
    if says_nothing (words_of line) then Ok so_far
    else with_expected so_far (expected_in positions net number (form_of (words_of line)))

-- the fault of a problem in the line of this number
abbrev pub in_line : {A : Type 0} → ℕ → Result A ExpectRule → Result A ExpectFault
in_line number (Ok a) = Ok a
in_line number (Err problem) = Err (InLine problem number)

-- what is expected once this line is read too, unless a line before it was bad
abbrev pub one_more : Positions → NetlistView → (number : ℕ) → (line : List ℕ)
    → Result (List Expectation) ExpectFault → Result (List Expectation) ExpectFault
one_more positions net number line (Err fault) = Err fault
one_more positions net number line (Ok so_far) = in_line number (after_line positions net so_far number line)

-- what is expected once these lines are read too, or the first that is bad; the first line has this number
abbrev pub after_lines : Positions → NetlistView → (number : ℕ) → List (List ℕ)
    → Result (List Expectation) ExpectFault → Result (List Expectation) ExpectFault
after_lines positions net number [] so_far = so_far
after_lines positions net number (line ∷ lines) so_far =
    after_lines positions net (suc number) lines (one_more positions net number line so_far)

-- ---- the whole

-- what a text expects of the netlist's signals, in order of time and of lines, or its first bad line
abbrev pub expectations_of : Positions → NetlistView → (text : List ℕ) → Result (List Expectation) ExpectFault
expectations_of positions net text = after_lines positions net 1 (lines_of text) (Ok [])
