use Rattle.std.proofs.Common.{◌++◌, codes, ap, ◌∙◌}
use Rattle.std.proofs.lemmas.Result.{IfOk-equal}
use Rattle.rtlsim_findings_text.specs.Json.{said_text}
use Rattle.rtlsim_findings_text.specs.Values.{string_text}
use Rattle.rtlsim_findings_text.proofs.Texts.{part, two}
use Rattle.rtlsim_findings_text.proofs.object.push_said.Goals as goal

pub returns : goal.returns
unfolding said_text
returns c =
    let message = part _ _ _ _ c.in_ok-push_member.ensures (ap (λ t. codes ",\"message\":" ++ string_text t) (c.deref.ensures.value ∙ c.in_ok-message.ensures)) in
    let help = c.as_bytes.ensures.value ∙ c.words_in-words.ensures.help in
    IfOk-equal c.push_member-2.result _ _ _ c.push_member-2.ensures
    (ap (λ t. c.push_member.new.text.items ++ (codes ",\"help\":" ++ string_text t)) help ∙ two _ _ _ (codes ",\"help\":") _ message)
