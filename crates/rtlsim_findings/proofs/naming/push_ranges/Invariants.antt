use Rattle.std.proofs.Common.{◌≡◌, ◌++◌, length, map}
use Rattle.rtlsim_findings.specs.Sayings.{ranges_from}
use Rattle.rtlsim_findings.proofs.naming.push_ranges.Given as goal

-- what was appended, and then what is left, are the whole
abbrev pub invariant-loop-left : goal.invariant-loop-left
invariant-loop-left l =
    map (λ t. t.items) l.texts.items ++ ranges_from l.first l.last (map (λ t. t.items) l.left)
    ≡ map (λ t. t.items) l.initial.texts.items ++ ranges_from l.name l.name (map (λ t. t.items) l.names)

abbrev pub decreases-loop-left : goal.decreases-loop-left
decreases-loop-left l = length l.left
