-- Whatever the order of processes (IEEE 1076-2008, 14.7.5.3), a simulation answers alike and writes the same.
use Rattle.std.specs.Prelude.{◌≡◌, ⊤, ℕ, List, Result, Ok, Err}
use Rattle.rtl_net.specs.Nets.{NetlistView, SignalView}
use Rattle.byte_streams.specs.Written.{SinkState, TakesAll}
use Rattle.rtl_stim.specs.Stimuli.{StimulusView}
use Rattle.rtl_simulation.specs.declared.summary.Summary.{Summary}
use Rattle.rtl_simulation.specs.declared.summary.RunFault.{RunFault}
use Rattle.rtl_simulation.specs.declared.summary.RunFault.TheVariants.{NoSettling, Memory, Output}
use Rattle.rtl_simulation.specs.Answered.{Answers}

-- the run has come to its end, or to a moment that doesn't settle, and not to want of memory nor a failed output
abbrev pub IsComplete : Result Summary RunFault → Type 0
IsComplete (Ok summary) = ⊤
IsComplete (Err (NoSettling time)) = ⊤
IsComplete (Err Memory) = ⊥
IsComplete (Err Output) = ⊥

-- the answers are the same, and both sinks took one text
pub record AreAlike (old one other : SinkState) (one_answer other_answer : Result Summary RunFault)
    : Type 0 where
  pub same : one_answer ≡ other_answer
  pub text : List ℕ
  pub one_took : TakesAll old one text
  pub other_took : TakesAll old other text

-- Of one netlist, its signals that are shown, stimulus and limit, two runs into sinks that are alike before, by
-- whatever orders.
abbrev pub EachOrderIsWrittenAlike : Type 0
EachOrderIsWrittenAlike =
    (net : NetlistView) (names : List SignalView) (s : StimulusView) (limit : ℕ) (old one other : SinkState)
    (one_answer other_answer : Result Summary RunFault)
    → Answers net names s limit old one one_answer → Answers net names s limit old other other_answer
    → IsComplete one_answer → IsComplete other_answer → AreAlike old one other one_answer other_answer
