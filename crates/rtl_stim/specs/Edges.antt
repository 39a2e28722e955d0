-- The moments of a stimulus by their times: between two moments nothing changes, so what an input had at the moment
-- before a time is what it had right before that time.
use Rattle.std.specs.Prelude.{◌≡◌, ◌⊎◌, ℕ, suc, ◌-◌, ◌<◌, ◌≤◌, length, slice_index}
use Rattle.rtl_model.specs.simulation.Netlist.{Netlist}
use Rattle.rtl_model.specs.simulation.Races.{IsRace, IsRaceAt, HasNoRace}
use Rattle.rtl_stim.specs.Stimuli.{StimulusView, moments, inputs_at, code_at}

-- the moment after m is at a time up to the stop, and has the inputs from right before that time to it
pub record ChangesAtTime (s : StimulusView) (m : ℕ) : Type 0 where
  pub later : 0 < slice_index (moments s) (suc m)
  pub within : slice_index (moments s) (suc m) ≤ s.schedule.stop
  pub before : inputs_at s m ≡ code_at s (slice_index (moments s) (suc m) - 1)
  pub now : inputs_at s (suc m) ≡ code_at s (slice_index (moments s) (suc m))

-- a race at a time up to the stop
pub record HasRaceAtTime (net : Netlist) (s : StimulusView) (t : ℕ) : Type 0 where
  pub later : 0 < t
  pub within : t ≤ s.schedule.stop
  pub race : IsRace net (code_at s (t - 1)) (code_at s t)

-- Each moment after the first is such a time, nothing changes at any other, and the races of a netlist are those
-- at times.
pub record ShowsRaces (s : StimulusView) : Type 0 where
  pub each_moment : (m : ℕ) → suc m < length (moments s) → ChangesAtTime s m
  pub other_times : (t : ℕ) → 0 < t → t ≤ s.schedule.stop
      → (code_at s (t - 1) ≡ code_at s t)
      ⊎ ((m : ℕ) × (suc m < length (moments s)) × (slice_index (moments s) (suc m) ≡ t))
  pub race_has_time : (net : Netlist) (m : ℕ) → suc m < length (moments s) → IsRaceAt net (inputs_at s) (suc m)
      → HasRaceAtTime net s (slice_index (moments s) (suc m))
  pub time_has_race : (net : Netlist) (t : ℕ) → HasRaceAtTime net s t
      → (m : ℕ) × (suc m < length (moments s))
      × (slice_index (moments s) (suc m) ≡ t) × IsRaceAt net (inputs_at s) (suc m)
  -- so there is none where no time has one
  pub none : (net : Netlist) → ((t : ℕ) → HasRaceAtTime net s t → ⊥) → (last : ℕ) → HasNoRace net (inputs_at s) last

abbrev pub TimesShowRaces : Type 0
TimesShowRaces = (s : StimulusView) → ShowsRaces s
