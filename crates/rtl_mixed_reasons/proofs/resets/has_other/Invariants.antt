use Rattle.std.proofs.Common.{◌≡◌, not, take, drop}
use Rattle.std.specs.List.{list_any}
use Rattle.rtl_mixed_reasons.specs.Reasons.{is_reset, tests_of}
use Rattle.rtl_mixed_reasons.proofs.resets.has_other.Given as goal

abbrev pub invariant-loop-i : goal.invariant-loop-i
invariant-loop-i l = list_any (λ t. not (is_reset t)) (drop l.i (take l.before (tests_of l.branches))) ≡ list_any (λ t. not (is_reset t)) (take l.before (tests_of l.branches))
