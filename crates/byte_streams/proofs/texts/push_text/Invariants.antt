use Rattle.std.proofs.Common.{◌-◌, ◌≤◌, length, take}
use Rattle.byte_streams.specs.Written.{TakesAll, IsIntact}
use Rattle.byte_streams.proofs.texts.push_text.Given as goal

-- the text before `done` went out
abbrev pub invariant-loop-done : goal.invariant-loop-done
invariant-loop-done g l =
    (l.done ≤ length l.text) × TakesAll (g.S.Sink.state l.initial.sink) (g.S.Sink.state l.sink) (take l.done l.text) × IsIntact (g.S.Sink.state l.sink)

abbrev pub decreases-loop-done : goal.decreases-loop-done
decreases-loop-done g l = length l.text - l.done
