-- How far a simulation has come.
use Rattle.std.specs.Prelude.{◌≡◌, ℕ, suc, ◌<◌, if◌then◌else◌, List, [], ◌∷◌, length, slice_index, Result, Ok, Err}
use Rattle.rtl_net.specs.Nets.{SignalView}
use Rattle.byte_streams.specs.Written.{SinkState, IsIntact, HasFailed, Goes}
use Rattle.rtl_vcd.specs.Trace.{Moment, are_some, changes}
use Rattle.rtl_stim.specs.Stimuli.{StimulusView, moments}
use Rattle.rtl_simulation.specs.declared.progress.Progress.{Progress}
use Rattle.rtl_simulation.specs.Answered.{LeavesBeginning}
use Rattle.rtl_simulation.specs.Engines.{CourseView}
use Rattle.rtl_simulation.specs.Simulated.{Settled, AreMoments}
use Rattle.rtl_simulation.specs.Traced.{behind_first, at_times, text_so_far}

-- the values of the last moment, or `before` where there is none
abbrev pub last_values : (before : List ℕ) → List Settled → List ℕ
last_values before [] = before
last_values before (x ∷ xs) = last_values x.values xs

-- the last time that these moments print, or `last` where they print nothing
abbrev pub last_printed : List SignalView → (last : ℕ) → (before : List ℕ) → List Moment → ℕ
last_printed signals last before [] = last
last_printed signals last before (m ∷ ms) =
    last_printed signals (if are_some (changes signals before m.values) then m.time else last) m.values ms

abbrev pub last_printed_of : (names : List SignalView) → StimulusView → List Settled → ℕ
last_printed_of names s [] = 0
last_printed_of names s (x ∷ xs) = last_printed names 0 x.values (at_times xs (behind_first (moments s)))

-- behind the moments so far comes the moment at this time
pub record IsNextMoment (r : CourseView) (p : Progress) (time : ℕ) : Type 0 where
  pub there : p.moments < length (moments r.stimulus)
  pub is : slice_index (moments r.stimulus) p.moments ≡ time

module _ (r : CourseView) (names : List SignalView) where
  -- Some moments have come, and at least the first: they settle so, and the trace of these signals went out.
  pub record HasCome (old new : SinkState) (p : Progress) : Type 0 where
    pub first : Settled
    pub rest : List Settled
    pub count : length (first ∷ rest) ≡ p.moments
    pub are : AreMoments r.net r.stimulus r.limit (first ∷ rest)
    pub text : Goes old new (text_so_far r.net names r.stimulus (first ∷ rest))
    pub intact : IsIntact new
    pub time : slice_index (moments r.stimulus) (length rest) ≡ p.now
    pub values : last_values first.values rest ≡ p.shown.items
    pub printed : last_printed_of names r.stimulus (first ∷ rest) ≡ p.printed

  -- what this moment prints went out as well, or the output failed
  abbrev pub GoesOn : {F : Type 0} → (old new : SinkState) → (before : Progress) → (time : ℕ) → (p : Progress)
      → Result (Unit {0}) F → Type 0
  GoesOn old new before time p (Ok _) = HasCome old new p × (p.moments ≡ suc before.moments) × (p.now ≡ time)
  GoesOn old new before time p (Err fault) = LeavesBeginning r.net names r.stimulus r.limit old new × HasFailed new
