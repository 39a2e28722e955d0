use Rattle.std.proofs.Common.{◌-◌, ◌<◌, Some, vec_len}
use Rattle.rtl_expect.proofs.Seeing.{Passes}
use Rattle.rtl_expect.proofs.watching.ExpectationsWatch.stood.Given as goal

-- those so far are of a time before this one, and were compared
abbrev pub invariant-loop-self : goal.invariant-loop-self
invariant-loop-self l = Passes (λ e. e.time < l.until) l.fn.self (Some l.values) l.self

abbrev pub decreases-loop-self : goal.decreases-loop-self
decreases-loop-self l = vec_len l.self.list - l.self.next
