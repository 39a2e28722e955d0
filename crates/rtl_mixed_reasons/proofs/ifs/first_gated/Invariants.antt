use Rattle.std.proofs.Common.{◌≡◌, drop}
use Rattle.rtl_mixed_reasons.specs.Reasons.{first_gated, tests_of}
use Rattle.rtl_mixed_reasons.proofs.ifs.first_gated.Given as goal

abbrev pub invariant-loop-before : goal.invariant-loop-before
invariant-loop-before l = first_gated l.before (drop l.before (tests_of l.branches)) ≡ first_gated 0 (tests_of l.branches)
