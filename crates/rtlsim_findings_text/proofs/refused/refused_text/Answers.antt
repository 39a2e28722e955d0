use Rattle.std.proofs.Common.{ap, ◌∙◌}
use Rattle.rtlsim_findings.proofs.Lists.{map_same}
use Rattle.rtlsim_findings_text.specs.Json.{itself}
use Rattle.rtlsim_findings_text.specs.Values.{array_text}
use Rattle.rtlsim_findings_text.proofs.Texts.{all_three, part}
use Rattle.rtlsim_findings_text.proofs.refused.refused_text.Goals as goal

pub returns : goal.returns
returns c =
    let faults = part _ _ _ _ c.in_ok-push_array.ensures (ap (array_text itself) (map_same _ _ c.deref.ensures.value (λ t. t.items) ∙ c.in_ok-objects.ensures)) in
    all_three _ _ _ _ _ _ c.in_ok-text.ensures.items faults c.in_ok-extend_from_slice.ensures.items
