use Rattle.std.proofs.Common.{◌≡◌, [], length, map}
use Rattle.rtlsim_findings.specs.Findings.{finding_view, any_gated, found_from}
use Rattle.rtlsim_findings.specs.steps.Joining.{causes_of}
use Rattle.rtlsim_findings.specs.steps.Walked.{AreOf, IfMade}
use Rattle.rtlsim_findings.proofs.finding.findings.Given as goal

-- what is found with the faults that are left is found with all
abbrev pub invariant-loop-left : goal.invariant-loop-left
invariant-loop-left l = record {
  made : IfMade l.net l.walks;
  are : AreOf l.net l.walked;
  causes : l.causes.keys ≡ causes_of (map finding_view l.found.items);
  same : found_from l.net (any_gated l.faults) (map finding_view l.found.items) l.left ≡ found_from l.net (any_gated l.faults) [] l.faults;
}

abbrev pub decreases-loop-left : goal.decreases-loop-left
decreases-loop-left l = length l.left
