-- What waits in an agenda where memory is refused while it is filled: some of what the stimulus gives, and
-- nothing else.
use Rattle.std.specs.Prelude.{ℕ, List, Contains}
use Rattle.rtl_agenda.specs.Agenda.{Change, changes_at, IsOneEach}
use Rattle.rtl_stim_lines.specs.Inputs.{Input}
use Rattle.rtl_stim_lines.specs.Reading.{Schedule}
use Rattle.rtl_stim_lines.specs.Filling.{IsDue}

-- What waited waits still. Each change that waits is due by the stimulus after the time now, and comes once.
pub record WaitsPartly (inputs : List Input) (schedule : Schedule)
    (now : ℕ) (old new : List (ℕ × List Change)) : Type 0 where
  pub kept : (t : ℕ) (change : Change) → Contains (changes_at old t) change → Contains (changes_at new t) change
  pub due : (t : ℕ) (change : Change) → Contains (changes_at new t) change → IsDue inputs schedule now t change
  pub once : (t : ℕ) → IsOneEach (changes_at new t)
