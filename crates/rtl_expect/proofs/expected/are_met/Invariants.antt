use Rattle.std.proofs.Common.{◌≡◌, drop}
use Rattle.rtl_expect.specs.Differences.{are_met}
use Rattle.rtl_expect.proofs.expected.are_met.Given as goal

-- all have what is expected where those that are left have
abbrev pub invariant-loop-one : goal.invariant-loop-one
invariant-loop-one l = are_met l.values l.wanted ≡ are_met l.values (drop l.one-index l.wanted)
