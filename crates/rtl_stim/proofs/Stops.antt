-- No stimulus stops after the latest time.
use Rattle.std.proofs.Common.{◌≡◌, ℕ, suc, ◌≤◌, Bool, true, false, cond, not, nat_le, List, [], ◌∷◌, Option, Some, None, is_some, Result, Ok, Err, refl, ◌||◌, arith}
use Rattle.std.proofs.lemmas.Bool.{leb-true}
use Rattle.std.proofs.lemmas.Result.{IfOk-at_ok}
use Rattle.std.specs.Prelude.{IfOk, IfSome}
use Rattle.vhdl_values.specs.declared.scalar.Nine.{Nine}
use Rattle.fault_rules.specs.declared.stimuli.StimRule.{StimRule}
use Rattle.fault_rules.specs.declared.stimuli.StimRule.TheVariants.{BadLine, BadValue, TimeTooLarge}
use Rattle.rtl_stim_lines.specs.declared.faults.StimFault.{StimFault}
use Rattle.rtl_stim_lines.specs.Lines.{Word, lines_of, words_of, says_nothing}
use Rattle.rtl_stim_lines.specs.Forms.{Form, At, Clock, Stop, form_of}
use Rattle.rtl_stim_lines.specs.Inputs.{Input, input_at, input_named, values_for}
use Rattle.rtl_stim_lines.specs.Courses.{Course}
use Rattle.rtl_stim_lines.specs.Pairs.{stopped_at_zero}
use Rattle.rtl_stim_lines.specs.Reading.{Said, Schedule, latest_time, is_too_large, nothing_said, after_set, after_clock, course_at, with_course, set_values, set_input, set_clock, with_stop, after_form, after_line, in_line, one_more, after_lines, with_end, ended, schedule_of}

-- ---- what is said of the stop alone stays where inputs are set

module _ (P : Option ℕ → Type 0) where
  abbrev pub Holds : Said → Type 0
  Holds said = P said.stop

  course_keeps : (said : Said) (input : ℕ) (r : Result Course StimRule) → Holds said → IfOk (with_course said input r) Holds
  course_keeps said input (Err problem) h = tt
  course_keeps said input (Ok x) h = h

  values : (said : Said) (input time : ℕ) (found : Option (List Nine)) → Holds said → IfOk (set_values said input time found) Holds
  values said input time None h = tt
  values said input time (Some vs) h = course_keeps said input (after_set time vs (course_at said input)) h

  pub set_keeps : (inputs : List Input) (said : Said) (found : Option ℕ) (time : ℕ) (text : Word) → Holds said → IfOk (set_input inputs said found time text) Holds
  set_keeps inputs said None time text h = tt
  set_keeps inputs said (Some input) time text h = values said input time (values_for (input_at inputs input) text) h

  pub number_keeps : (number : ℕ) (r : Result Said StimRule) → IfOk r Holds → IfOk (in_line number r) Holds
  number_keeps number (Ok said) h = h
  number_keeps number (Err problem) h = tt

-- ---- it is no later

abbrev is_early : Option ℕ → Type 0
is_early stop = IfSome stop (λ t. t ≤ latest_time)

abbrev IsEarly : Said → Type 0
IsEarly said = is_early said.stop

chosen : {E : Type 0} (b : Bool) (r s : Result Said E) → IfOk r IsEarly → IfOk s IsEarly → IfOk (cond b r s) IsEarly
chosen true r s h g = h
chosen false r s h g = g

clock : (inputs : List Input) (said : Said) (found : Option ℕ) (first half : ℕ) → IsEarly said → IfOk (set_clock inputs said found first half) IsEarly
clock inputs said None first half h = tt
clock inputs said (Some input) first half h =
    let course = after_clock first half (course_at said input) in
    chosen (input_at inputs input).is_scalar (with_course said input course) (Err BadValue) (course_keeps is_early said input course h) tt

stop : (said : Said) (time : ℕ) → IfOk (with_stop said time) IsEarly
stop said time = chosen (is_some said.stop) (Err BadLine) (cond (is_too_large time) (Err TimeTooLarge) (Ok (record said { stop = Some time }))) tt (within (nat_le time latest_time) refl)
  where
    within : (b : Bool) → nat_le time latest_time ≡ b → IfOk (cond (not b) (Err TimeTooLarge) (Ok (record said { stop = Some time }))) IsEarly
    within true e = leb-true time latest_time e
    within false e = tt

form : (inputs : List Input) (said : Said) (f : Option Form) → IsEarly said → IfOk (after_form inputs said f) IsEarly
form inputs said None h = tt
form inputs said (Some (At time name text)) h =
    chosen (is_too_large time) (Err TimeTooLarge) (set_input inputs said (input_named inputs name) time text) tt (set_keeps is_early inputs said (input_named inputs name) time text h)
form inputs said (Some (Clock name first half)) h =
    chosen (is_too_large first || is_too_large half) (Err TimeTooLarge) (set_clock inputs said (input_named inputs name) first half) tt (clock inputs said (input_named inputs name) first half h)
form inputs said (Some (Stop time)) h = stop said time

more : (inputs : List Input) (number : ℕ) (line : List ℕ) (r : Result Said StimFault) → IfOk r IsEarly → IfOk (one_more inputs number line r) IsEarly
more inputs number line (Err fault) h = tt
more inputs number line (Ok said) h =
    number_keeps is_early number (after_line inputs said line)
    (chosen (says_nothing (words_of line)) (Ok said) (after_form inputs said (form_of (words_of line))) h (form inputs said (form_of (words_of line)) h))

all : (inputs : List Input) (number : ℕ) (lines : List (List ℕ)) (r : Result Said StimFault) → IfOk r IsEarly → IfOk (after_lines inputs number lines r) IsEarly
all inputs number [] r h = h
all inputs number (line ∷ lines) r h = all inputs (suc number) lines (one_more inputs number line r) (more inputs number line r h)

ends : (r : Result Said StimFault) → IfOk r IsEarly → IfOk (ended r) (λ (s : Schedule). s.stop ≤ latest_time)
ends (Err fault) h = tt
ends (Ok said) h = by said.stop h
  where
    by : (o : Option ℕ) → IfSome o (λ t. t ≤ latest_time) → IfOk (with_end said.courses o) (λ (s : Schedule). s.stop ≤ latest_time)
    by None g = tt
    by (Some time) g = g

-- a schedule that is read stops by the latest time
pub stops_in_time : (inputs : List Input) (text : List ℕ) (s : Schedule) → schedule_of inputs text ≡ Ok s → s.stop ≤ latest_time
stops_in_time inputs text s e = IfOk-at_ok (λ (x : Schedule). x.stop ≤ latest_time) e (ends (after_lines inputs 1 (lines_of text) (Ok (nothing_said inputs))) (all inputs 1 (lines_of text) (Ok (nothing_said inputs)) tt))

-- pairs stop at 0
pub pairs_in_time : (s : Schedule) (r : Result Said StimFault) → stopped_at_zero r ≡ Ok s → s.stop ≤ latest_time
pairs_in_time s (Ok said) e = IfOk-at_ok (λ (x : Schedule). x.stop ≤ latest_time) e (omega arith)
pairs_in_time s (Err fault) e = absurd cc
