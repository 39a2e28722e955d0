use Rattle.std.proofs.Common.{map, ap, ◌∙◌}
use Rattle.std.proofs.lemmas.Result.{IfOk-weaker}
use Rattle.rtlsim_refusals.specs.Explained.{told_view}
use Rattle.rtlsim_findings_text.specs.Refusals.{refused_text}
use Rattle.rtlsim_command_faults.proofs.describing.object_of.Goals as goal

pub returns : goal.returns
returns g c =
    IfOk-weaker c.refused_text.result _ _
    (λ object is. (map told_view c.in_ok-told.told.items, c.in_ok-told.ensures, is ∙ ap (λ ts. refused_text (map told_view ts)) c.deref.ensures.value)) c.refused_text.ensures
