-- Why a reset may come and go within a moment, in the wider language: what stands where the copies end that it is made
-- by (docs/WIDE.md). It is told of a process whose reset isn't calm (simulation/Calm of rtl_model).
use Rattle.std.specs.Prelude.{ℕ, ◌-◌, false, if◌then◌else◌, List, length, slice_get, Option, Some, None, is_some, option_and_then}
use Rattle.rtl_net.specs.declared.body.Statement.{Statement}
use Rattle.rtl_net.specs.declared.process.Process.{Process}
use Rattle.rtl_net.specs.Nets.{NetlistView, body_of}
use Rattle.rtl_body_facts.specs.declared.kinds.ProcessKind.{ProcessKind}
use Rattle.rtl_body_facts.specs.declared.kinds.ProcessKind.TheVariants as k
use Rattle.rtl_process_kinds.specs.BodyViews.{asked_last}
use Rattle.rtl_process_kinds.specs.declared.asked.Asked.{Asked}
use Rattle.rtl_copy_ends.specs.Ends.{driven_by, kind_in, end_of}
use Rattle.rtl_copy_ends.specs.Inside.{seen_by}
use Rattle.rtl_copy_ends.specs.declared.sight.End.{End}
use Rattle.rtl_copy_ends.specs.declared.sight.End.TheVariants.{Nothing, Starts, Made, Register, Circle}
use Rattle.rtl_copy_ends.specs.declared.sight.Standing.{Standing}
use Rattle.rtl_mixed_reasons.specs.declared.reason.Reason.{Reason}
use Rattle.rtl_mixed_reasons.specs.declared.reason.ReasonKind.{ReasonKind}
use Rattle.rtl_mixed_reasons.specs.declared.reason.ReasonKind.TheVariants.{UnsteadyGate, UnsteadyClock, UnsteadyRegister, UnsteadyStart, UnsteadyCircle}
use Rattle.rtl_mixed_reasons.specs.Reasons.{naming, naming_two, at_of, is_mixed, reason_of_body}

-- ---- where copies end

-- A net that a process makes looks at this one, which a process drives; or else, since it isn't calm, it is a clock.
abbrev pub seen_kind : NetlistView → (seen : Option ℕ) → ReasonKind
seen_kind net None = UnsteadyClock
seen_kind net (Some n) = if is_some (driven_by net n) then UnsteadyGate else UnsteadyClock

abbrev pub made_of : NetlistView → (at n : ℕ) → Reason
made_of net at n =
    record { kind = seen_kind net (seen_by net n); at = at; net = Some n; driver = None; second = seen_by net n }

abbrev pub told_of : NetlistView → (at : ℕ) → End → Option Reason
told_of net at Nothing = None
told_of net at (Starts n) = Some (naming UnsteadyStart at n)
told_of net at (Made n) = Some (made_of net at n)
told_of net at (Register n reset) = Some (naming_two UnsteadyRegister at n reset)
told_of net at (Circle n) = Some (naming UnsteadyCircle at n)

-- ---- the reset of a process, whose test is that of the last statement

abbrev pub at_of_last : Option Statement → ℕ
at_of_last None = 0
at_of_last (Some x) = at_of x

abbrev pub last_at : List Statement → ℕ
last_at xs = at_of_last (slice_get xs (length xs - 1))

abbrev pub standing_of : (reset : Option ℕ) → Option Asked → Option Standing
standing_of (Some n) (Some asked) = Some (record { net = n; asked = asked; copied = false })
standing_of _ _ = None

abbrev pub reset_of_kind : Process → ProcessKind → Option Standing
reset_of_kind p (k.Clocked c) = standing_of c.reset (asked_last (body_of p))
reset_of_kind p _ = None

abbrev pub reset_in : NetlistView → Process → Option Standing
reset_in net p = reset_of_kind p (kind_in net p)

abbrev pub unsteady_of : NetlistView → Process → Option Reason
unsteady_of net p = option_and_then (λ s. told_of net (last_at p.body.items) (end_of net s)) (reset_in net p)

abbrev pub unsteady : NetlistView → Process → Option Reason
unsteady net p = if net.wide then unsteady_of net p else None

-- ---- the reason of a process that is neither clocked nor combinational; else that of its reset

abbrev pub reason_at : NetlistView → Option Process → Option Reason
reason_at net None = None
reason_at net (Some p) = if is_mixed net p then reason_of_body net p else unsteady net p

abbrev pub reason_of : NetlistView → (process : ℕ) → Option Reason
reason_of net process = reason_at net (slice_get net.processes process)
