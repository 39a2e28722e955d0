-- Where a fault joins a finding.
use Rattle.std.specs.Prelude.{ℕ, ◌+◌, if◌then◌else◌, List, [], ◌∷◌, map}
use Rattle.rtlsim_findings.specs.Causes.{is_same}
use Rattle.rtlsim_findings.specs.Findings.{FindingView}
use Rattle.rtlsim_findings.specs.declared.cause.Cause.{Cause}

abbrev pub causes_of : List FindingView → List Cause
causes_of found = map (λ (f : FindingView). f.cause) found

-- the place of a cause among others, or their number
abbrev pub place_in : Cause → List Cause → ℕ
place_in cause [] = 0
place_in cause (before ∷ causes) = if is_same cause before then 0 else place_in cause causes + 1
