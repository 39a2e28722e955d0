use Rattle.std.proofs.Common.{◌≡◌, ◌+◌, ◌-◌, ◌≤◌, drop}
use Rattle.std.specs.Prelude.{reverse}
use Rattle.rtlsim_nearest.specs.Likeness as spec
use Rattle.rtlsim_nearest.proofs.likeness.shared_last.Given as goal

-- what is left of both decides
abbrev pub invariant-loop-count : goal.invariant-loop-count
invariant-loop-count l =
    (l.count + spec.shared (drop l.count (reverse l.name)) (drop l.count (reverse l.other)) ≡ spec.shared (reverse l.name) (reverse l.other)) × (l.count ≤ l.shorter)

abbrev pub decreases-loop-count : goal.decreases-loop-count
decreases-loop-count l = l.shorter - l.count
