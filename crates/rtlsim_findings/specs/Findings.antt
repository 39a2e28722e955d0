-- The findings of a rejection: each fault joins the first finding of its cause, or begins one. A clock that is read as
-- data is left out where it is told that it is no clock that may be.
use Rattle.std.specs.Prelude.{ℕ, ◌==◌, ◌||◌, Bool, false, if◌then◌else◌, List, [], ◌∷◌, ◌++◌, map, Option}
use Rattle.rtl_check.specs.Views.{fault_view}
use Rattle.rtl_check.specs.declared.fault.CheckFault.{CheckFault}
use Rattle.rtl_model.specs.simulation.Accepted.{Fault, ClockNotInput, ClockAsData}
use Rattle.rtl_net.specs.Nets.{NetlistView}
use Rattle.rtl_mixed_reasons.specs.declared.reason.Reason.{Reason}
use Rattle.rtlsim_findings.specs.Causes.{cause_of, is_same}
use Rattle.rtlsim_findings.specs.Mixed.{why}
use Rattle.rtlsim_findings.specs.declared.cause.Cause.{Cause}
use Rattle.rtlsim_findings.specs.declared.finding.Finding.{Finding}

-- the faults of one cause, in order, with the reason of the first
pub record FindingView : Type 0 where
  pub cause : Cause
  pub reason : Option Reason
  pub first : Fault
  pub others : List Fault

abbrev pub finding_view : Finding → FindingView
finding_view f = record {
  cause = f.cause;
  reason = f.reason;
  first = fault_view f.first.now;
  others = map (λ o. fault_view o.now) f.others.items;
}

abbrev pub begun : NetlistView → Fault → FindingView
begun net fault = record { cause = cause_of net fault; reason = why net fault; first = fault; others = [] }

abbrev pub with_other : FindingView → Fault → FindingView
with_other f fault = record f { others = f.others ++ fault ∷ [] }

abbrev pub joined : NetlistView → List FindingView → Fault → List FindingView
joined net [] fault = begun net fault ∷ []
joined net (f ∷ found) fault =
    if is_same (cause_of net fault) f.cause then with_other f fault ∷ found else f ∷ joined net found fault

abbrev pub is_gated : (n : ℕ) → Fault → Bool
is_gated n (ClockNotInput process m) = m == n
is_gated n _ = false

abbrev pub any_gated : List CheckFault → (n : ℕ) → Bool
any_gated [] n = false
any_gated (fault ∷ faults) n = is_gated n (fault_view fault) || any_gated faults n

-- `gated` are the nets of which it's told that they are no clock that may be
abbrev pub is_left_out : (gated : ℕ → Bool) → Fault → Bool
is_left_out gated (ClockAsData process n) = gated n
is_left_out gated _ = false

-- what is found once this fault is taken
abbrev pub taken : NetlistView → (gated : ℕ → Bool) → List FindingView → CheckFault → List FindingView
taken net gated found fault =
    if is_left_out gated (fault_view fault) then found else joined net found (fault_view fault)

-- what is found once these faults are taken behind what was found before
abbrev pub found_from : NetlistView → (gated : ℕ → Bool) → List FindingView → List CheckFault → List FindingView
found_from net gated found [] = found
found_from net gated found (fault ∷ faults) = found_from net gated (taken net gated found fault) faults

abbrev pub findings : NetlistView → List CheckFault → List FindingView
findings net faults = found_from net (any_gated faults) [] faults
