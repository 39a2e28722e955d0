use Rattle.std.proofs.Common.{◌-◌, None, vec_len}
use Rattle.rtl_expect.proofs.Seeing.{Passes}
use Rattle.rtl_expect.proofs.watching.Expectations.differences.Given as goal

-- those so far were compared with no values
abbrev pub invariant-loop-self : goal.invariant-loop-self
invariant-loop-self l = Passes (λ e. Unit {0}) l.fn.self None l.self

abbrev pub decreases-loop-self : goal.decreases-loop-self
decreases-loop-self l = vec_len l.self.list - l.self.next
