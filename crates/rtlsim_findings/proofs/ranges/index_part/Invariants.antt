use Rattle.std.proofs.Common.{◌≡◌, ◌≤◌, [], length}
use Rattle.rtlsim_findings.specs.Ranges.{behind_open}
use Rattle.rtlsim_findings.proofs.ranges.index_part.Given as goal

abbrev pub invariant-loop-bytes : goal.invariant-loop-bytes
invariant-loop-bytes l = record {
  same : behind_open l.found l.bytes ≡ behind_open [] l.name;
  found_fits : length l.found ≤ length l.name;
  bytes_fit : length l.bytes ≤ length l.name;
}

abbrev pub decreases-loop-bytes : goal.decreases-loop-bytes
decreases-loop-bytes l = length l.bytes
