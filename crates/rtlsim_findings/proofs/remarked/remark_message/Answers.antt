use Rattle.std.proofs.Common.{◌≡◌, subst, ◌∙◌}
use Rattle.std.specs.Prelude.{IfOk}
use Rattle.rtlsim_findings.proofs.Sentences.{same_sentence}
use Rattle.rtlsim_findings.proofs.remarked.remark_message.Goals as goal

pub returns : goal.returns
returns c =
    let process = c.deref.ensures.value ∙ c.in_ok-process.ensures in
    subst (λ t. IfOk c.sentence.result (λ text. text.items ≡ t))
    (same_sentence _ _ _ _ _ _ (rw c.remark_report.ensures at c.words.ensures) process c.deref-2.ensures.value) c.sentence.ensures
