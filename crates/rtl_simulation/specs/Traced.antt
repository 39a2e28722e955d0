-- The trace of the moments of a simulation (IEEE 1364-2005, clause 18).
use Rattle.std.specs.Prelude.{ℕ, List, [], ◌∷◌, ◌++◌}
use Rattle.rtl_net.specs.Nets.{NetlistView, SignalView}
use Rattle.rtl_vcd.specs.Header.{header_text}
use Rattle.rtl_vcd.specs.Trace.{Moment, first_text, moment_text, trace_text}
use Rattle.rtl_stim.specs.Stimuli.{StimulusView, moments}
use Rattle.rtl_simulation.specs.Simulated.{Settled}

abbrev pub behind_first : List ℕ → List ℕ
behind_first [] = []
behind_first (t ∷ ts) = ts

-- what nets settle to at these times
abbrev pub at_times : List Settled → (times : List ℕ) → List Moment
at_times [] ts = []
at_times (x ∷ xs) [] = []
at_times (x ∷ xs) (t ∷ ts) = record { time = t; values = x.values } ∷ at_times xs ts

-- the changes at these moments, behind the values before them
abbrev pub changes_text : List SignalView → (before : List ℕ) → List Moment → List ℕ
changes_text signals before [] = []
changes_text signals before (m ∷ ms) = moment_text signals m.time before m.values ++ changes_text signals m.values ms

-- the trace of these signals at the first moments, which settle so: of none, the header
abbrev pub text_so_far : NetlistView → (names : List SignalView) → StimulusView → List Settled → List ℕ
text_so_far net names s [] = header_text net.scopes names
text_so_far net names s (x ∷ xs) =
    header_text net.scopes names ++ first_text names x.values
    ++ changes_text names x.values (at_times xs (behind_first (moments s)))

-- their whole trace, where all moments settle so
abbrev pub whole_text : NetlistView → (names : List SignalView) → StimulusView → List Settled → List ℕ
whole_text net names s [] = header_text net.scopes names
whole_text net names s (x ∷ xs) =
    trace_text net.scopes names x.values (at_times xs (behind_first (moments s))) s.schedule.stop
