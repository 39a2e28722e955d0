-- A text is refused for a bad line or for want of a stop, and never for a race.
use Rattle.std.proofs.Common.{◌≡◌, ℕ, suc, List, [], ◌∷◌, Option, Some, None, Result, Ok, Err}
use Rattle.fault_rules.specs.declared.stimuli.StimRule.{StimRule}
use Rattle.rtl_stim_lines.specs.declared.faults.StimFault.{StimFault}
use Rattle.rtl_stim_lines.specs.declared.faults.StimFault.TheVariants.{InLine, NoStop, Race, NoMemory}
use Rattle.rtl_stim_lines.specs.Lines.{lines_of}
use Rattle.rtl_stim_lines.specs.Inputs.{Input}
use Rattle.rtl_stim_lines.specs.Reading.{Said, Schedule, nothing_said, after_line, in_line, one_more, after_lines, with_end, ended, schedule_of}

abbrev IsNoRace : {A : Type 0} → Result A StimFault → Type 0
IsNoRace (Ok x) = Unit {0}
IsNoRace (Err (Race time input clock)) = ⊥
IsNoRace (Err fault) = Unit {0}

in_number : (number : ℕ) (r : Result Said StimRule) → IsNoRace (in_line number r)
in_number number (Ok said) = tt
in_number number (Err problem) = tt

more : (inputs : List Input) (number : ℕ) (line : List ℕ) (r : Result Said StimFault) → IsNoRace r → IsNoRace (one_more inputs number line r)
more inputs number line (Err fault) h = h
more inputs number line (Ok said) h = in_number number (after_line inputs said line)

all : (inputs : List Input) (number : ℕ) (lines : List (List ℕ)) (r : Result Said StimFault) → IsNoRace r → IsNoRace (after_lines inputs number lines r)
all inputs number [] r h = h
all inputs number (line ∷ lines) r h = all inputs (suc number) lines (one_more inputs number line r) (more inputs number line r h)

ends : (r : Result Said StimFault) → IsNoRace r → IsNoRace (ended r)
ends (Err fault) h = h
ends (Ok said) h = by said.stop
  where
    by : (o : Option ℕ) → IsNoRace (with_end said.courses o)
    by None = tt
    by (Some time) = tt

is_none : (r : Result Schedule StimFault) (time input clock : ℕ) → r ≡ Err (Race time input clock) → IsNoRace r → ⊥
is_none (Ok s) time input clock is h = cc
is_none (Err (InLine problem line)) time input clock is h = cc
is_none (Err NoStop) time input clock is h = cc
is_none (Err NoMemory) time input clock is h = cc
is_none (Err (Race t i c)) time input clock is h = h

pub never_race : (inputs : List Input) (text : List ℕ) (time input clock : ℕ) → schedule_of inputs text ≡ Err (Race time input clock) → ⊥
never_race inputs text time input clock is =
    is_none (schedule_of inputs text) time input clock is
    (ends (after_lines inputs 1 (lines_of text) (Ok (nothing_said inputs))) (all inputs 1 (lines_of text) (Ok (nothing_said inputs)) tt))
