-- Numbers and lines as the reader keeps them: times above the latest are all alike.
use Rattle.std.specs.Prelude.{◌≡◌, ℕ, nat_le, Option, Some, None, List, is_some, Result, Ok, Err, if◌then◌else◌}
use Rattle.rtl_stim_lines.specs.declared.numbers.Time.{Time}
use Rattle.rtl_stim_lines.specs.declared.numbers.Time.TheVariants as time
use Rattle.rtl_stim_lines.specs.declared.forms.Form.{Form as KeptForm}
use Rattle.rtl_stim_lines.specs.declared.forms.Form.TheVariants as kept
use Rattle.rtl_stim_lines.specs.Forms.{Form, At, Clock, Stop}
use Rattle.rtl_stim_lines.specs.Reading.{Said, latest_time, set_input, set_clock}
use Rattle.rtl_stim_lines.specs.Inputs.{Input, input_named}
use Rattle.fault_rules.specs.declared.stimuli.StimRule.{StimRule}
use Rattle.fault_rules.specs.declared.stimuli.StimRule.TheVariants.{BadLine, TimeTooLarge}
use Rattle.rtl_stim_lines.specs.declared.faults.StimFault.{StimFault}
use Rattle.rtl_stim_lines.specs.declared.faults.StimFault.TheVariants.{InLine}

abbrev pub bounded : ℕ → Time
bounded number = if nat_le number latest_time then time.At number else time.TooLarge

-- what is kept of a line of this form
abbrev pub IsKeptAs : Form → KeptForm → Type 0
IsKeptAs (At time name value) (kept.At time' name' value') =
    (time' ≡ bounded time) × (name'.now ≡ name) × (value'.now ≡ value)
IsKeptAs (Clock name first half) (kept.Clock name' first' half') =
    (name'.now ≡ name) × (first' ≡ bounded first) × (half' ≡ bounded half)
IsKeptAs (Stop time) (kept.Stop time') = time' ≡ bounded time
IsKeptAs form other = ⊥

abbrev pub IsFormOf : Option Form → Option KeptForm → Type 0
IsFormOf None None = Unit {0}
IsFormOf (Some form) (Some kept) = IsKeptAs form kept
IsFormOf form other = ⊥

-- a time in the line of this number, which may be too large
abbrev pub time_in_line : ℕ → Time → Result ℕ StimFault
time_in_line line (time.At t) = Ok t
time_in_line line time.TooLarge = Err (InLine TimeTooLarge line)

-- ---- what a kept line says

abbrev pub after_time : Time → (ℕ → Result Said StimRule) → Result Said StimRule
after_time (time.At t) next = next t
after_time time.TooLarge next = Err TimeTooLarge

abbrev pub stop_kept : Said → Time → Result Said StimRule
stop_kept said time =
    if is_some said.stop then Err BadLine else after_time time (λ t. Ok (record said { stop = Some t }))

abbrev pub after_kept : List Input → Said → KeptForm → Result Said StimRule
after_kept inputs said (kept.At time name text) =
    after_time time (λ t. set_input inputs said (input_named inputs name.now) t text.now)
after_kept inputs said (kept.Clock name first half) =
    after_time first (λ f. after_time half (λ h. set_clock inputs said (input_named inputs name.now) f h))
after_kept inputs said (kept.Stop time) = stop_kept said time
