use Rattle.std.proofs.Common.{◌≡◌, ℕ, ◌||◌, length}
use Rattle.rtl_body_facts.specs.Reading.{is_in}
use Rattle.rtlsim_findings.specs.Findings.{any_gated}
use Rattle.rtlsim_findings.proofs.finding.gated_nets.Given as goal

-- a net that is listed, or is one of those that are left, is one of all
abbrev pub invariant-loop-left : goal.invariant-loop-left
invariant-loop-left l = (n : ℕ) → (is_in n l.nets.items || any_gated l.left n) ≡ any_gated l.faults n

abbrev pub decreases-loop-left : goal.decreases-loop-left
decreases-loop-left l = length l.left
