-- The times that a filled agenda gives are the moments of the stimulus, and its changes lead from the inputs at one
-- moment to those at the next.
use Rattle.std.specs.Prelude.{◌≡◌, ℕ, suc, ◌<◌, ◌≤◌, List, [], ◌∷◌, All, Contains, length, map, slice_index}
use Rattle.vhdl_values.specs.Scalar.{code_of}
use Rattle.rtl_model.specs.simulation.Cycle.{with_changes}
use Rattle.rtl_agenda.specs.Agenda.{AgendaState, Change, IsOrderly}
use Rattle.rtl_stim_lines.specs.Times.{all_nets}
use Rattle.rtl_stim_lines.specs.Filling.{HaveOwnNets, Waits}
use Rattle.rtl_stim.specs.Stimuli.{StimulusView, moments, inputs_at}

-- What holds of every `Stimulus`: inputs have elements, with nets of their own, and a course each.
pub record IsStimulus (s : StimulusView) : Type 0 where
  pub own_nets : HaveOwnNets s.inputs
  pub each_course : length s.schedule.courses ≡ length s.inputs
  pub have_elements : All (λ input. 1 ≤ length input.elements) s.inputs

-- changes, by the codes of their values
abbrev pub coded : List Change → List (ℕ × ℕ)
coded changes = map {B = ℕ × ℕ} (λ c. (c.0, code_of c.1)) changes

-- what waits after the moment m, the least time t with these changes first
pub record GivesNext (s : StimulusView) (m t : ℕ) (changes : List Change) : Type 0 where
  -- the time is the next moment
  pub there : suc m < length (moments s)
  pub is : slice_index (moments s) (suc m) ≡ t
  -- the changes are of inputs, and give each the value that it has then
  pub of_inputs : All (λ c. Contains (all_nets s.inputs) c.0) changes
  pub lead : (values : List ℕ) (n : ℕ) → n < length values
      → Contains (all_nets s.inputs) n → slice_index values n ≡ inputs_at s m n
      → with_changes (coded changes) values n ≡ inputs_at s (suc m) n

-- Of an agenda that is filled for the moment m: the least time is the next moment, and where no time waits, m is
-- the last.
pub record FollowsMoment (s : StimulusView) (m : ℕ) (waiting : List (ℕ × List Change)) : Type 0 where
  pub next : (t : ℕ) (changes : List Change) (rest : List (ℕ × List Change))
      → waiting ≡ (t, changes) ∷ rest → GivesNext s m t changes
  pub last : waiting ≡ [] → suc m ≡ length (moments s)

abbrev pub EachMomentFollows : Type 0
EachMomentFollows =
    (s : StimulusView) (state : AgendaState) (m : ℕ) → IsStimulus s → IsOrderly state → m < length (moments s)
    → Waits s.inputs s.schedule (slice_index (moments s) m) state.waiting → FollowsMoment s m state.waiting

-- the first moment is 0
abbrev pub EachBeginsAtZero : Type 0
EachBeginsAtZero = (s : StimulusView) → (0 < length (moments s)) × (slice_index (moments s) 0 ≡ 0)
