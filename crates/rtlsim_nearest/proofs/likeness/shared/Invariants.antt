use Rattle.std.proofs.Common.{◌≡◌, ◌+◌, length}
use Rattle.rtlsim_nearest.specs.Likeness as spec
use Rattle.rtlsim_nearest.proofs.likeness.shared.Given as goal

-- what is left of both decides
abbrev pub invariant-loop-name : goal.invariant-loop-name
invariant-loop-name l =
    (l.count + spec.shared l.name l.other ≡ spec.shared l.initial.name l.initial.other) × (l.count + length l.name ≡ length l.initial.name)
    × (l.count + length l.other ≡ length l.initial.other)

abbrev pub decreases-loop-name : goal.decreases-loop-name
decreases-loop-name l = length l.name
