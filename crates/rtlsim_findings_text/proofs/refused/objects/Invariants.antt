use Rattle.std.proofs.Common.{◌≡◌, map, take}
use Rattle.rtlsim_refusals.specs.Explained.{told_view}
use Rattle.rtlsim_findings_text.specs.Refusals.{fault_text}
use Rattle.rtlsim_findings_text.proofs.refused.objects.Given as goal

abbrev pub invariant-loop-told : goal.invariant-loop-told
invariant-loop-told l = map (λ t. t.items) l.texts.items ≡ map fault_text (map told_view (take l.told-index l.faults))
