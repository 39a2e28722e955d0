use Rattle.std.proofs.Common.{ℕ, ◌-◌, ◌<◌, ◌≤◌}
use Rattle.rtl_stim.specs.Quiet.{HasEdgeAt, IsAmong}
use Rattle.rtl_stim.proofs.stimulus.Stimulus.edge_before.Given as goal

-- the times so far have no edge
abbrev pub invariant-loop-time : goal.invariant-loop-time
invariant-loop-time l = (t : ℕ) → 0 < t → t ≤ l.now → HasEdgeAt l.self l.net l.kind t → IsAmong l.times t → ⊥

abbrev pub decreases-loop-time : goal.decreases-loop-time
decreases-loop-time l = l.past - l.now
