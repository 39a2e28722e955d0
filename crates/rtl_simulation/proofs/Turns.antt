-- One turn of a run: what the agenda gives next is the next moment.
use Rattle.std.proofs.Common.{◌≡◌, ℕ, suc, ◌<◌, ◌≤◌, List, [], ◌∷◌, length, sym, subst, arith}
use Rattle.std.specs.Prelude.{slice_index}
use Rattle.rtl_agenda.specs.Agenda.{AgendaState, Change, IsOrderly}
use Rattle.rtl_stim_lines.specs.Filling.{Waits}
use Rattle.rtl_stim.specs.Moments.{GivesNext, IsStimulus}
use Rattle.rtl_stim.specs.Stimuli.{StimulusView, moments}
use Rattle.rtl_simulation.proofs.Steps.{next_moment, no_moment, later, within_stop, few}

-- m is the last of so many moments, it is at this time, and what comes after it waits
pub record IsLast (s : StimulusView) (m count now : ℕ) (waiting : List (ℕ × List Change)) : Type 0 where
  pub is_last : suc m ≡ count
  pub there : m < length (moments s)
  pub at : slice_index (moments s) m ≡ now
  pub waits : Waits s.inputs s.schedule now waiting

-- the agenda has given this time, which is that of the moment behind m
pub record ComesNext (s : StimulusView) (m count now time : ℕ) (behind : AgendaState) : Type 0 where
  pub next : GivesNext s m time behind.taken
  pub is_last : suc m ≡ count
  pub after : now < time
  pub within : time ≤ s.schedule.stop
  pub few : count ≤ s.schedule.stop
  pub waited : Waits s.inputs s.schedule now ((time, behind.taken) ∷ behind.waiting)

module _ (s : StimulusView) (is_stimulus : IsStimulus s) (m count now : ℕ) (agenda : AgendaState) (orderly : IsOrderly agenda) (last : IsLast s m count now agenda.waiting) where
  waits_at : Waits s.inputs s.schedule (slice_index (moments s) m) agenda.waiting
  waits_at = subst (λ (t : ℕ). Waits s.inputs s.schedule t agenda.waiting) (sym last.at) last.waits

  pub comes_next : (time : ℕ) (behind : AgendaState) → agenda.waiting ≡ (time, behind.taken) ∷ behind.waiting → ComesNext s m count now time behind
  comes_next time behind least =
      let next = next_moment s is_stimulus m last.there agenda orderly waits_at time behind.taken behind.waiting least in
      record {
        next = next;
        is_last = last.is_last;
        after = let less = later s m time behind.taken next in let at = last.at in omega (arith, less, at);
        within = within_stop s m time behind.taken next;
        few = let most = few s in let more = next.there in let is_last = last.is_last in omega (arith, most, more, is_last);
        waited = subst (λ (waiting : List (ℕ × List Change)). Waits s.inputs s.schedule now waiting) least last.waits;
      }

  pub none_behind : agenda.waiting ≡ [] → suc m ≡ length (moments s)
  none_behind = no_moment s is_stimulus m last.there agenda orderly waits_at
