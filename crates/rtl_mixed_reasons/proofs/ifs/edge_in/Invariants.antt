use Rattle.std.proofs.Common.{◌≡◌, drop}
use Rattle.rtl_mixed_reasons.specs.Reasons.{edge_in, tests_of}
use Rattle.rtl_mixed_reasons.proofs.ifs.edge_in.Given as goal

abbrev pub invariant-loop-before : goal.invariant-loop-before
invariant-loop-before l = edge_in l.number l.at l.before (drop l.before (tests_of l.branches)) ≡ edge_in l.number l.at 0 (tests_of l.branches)
