use Rattle.std.proofs.Common.{◌≡◌, ap, subst, ◌∙◌}
use Rattle.std.specs.Prelude.{IfOk}
use Rattle.rtlsim_findings.specs.Sayings.{listed}
use Rattle.rtlsim_findings.proofs.Lists.{map_same}
use Rattle.rtlsim_findings.proofs.Sentences.{same_sentence}
use Rattle.rtlsim_findings.proofs.saying.message.Goals as goal

pub returns : goal.returns
returns c =
    let nets = c.deref-3.ensures.value ∙ c.in_ok-nets.ensures ∙ ap listed (map_same _ _ c.deref.ensures.value (λ t. t.items) ∙ c.in_ok-ranges.ensures) in
    subst (λ t. IfOk c.sentence.result (λ text. text.items ≡ t))
    (same_sentence _ _ _ _ _ _ c.words_in.ensures (c.deref-2.ensures.value ∙ c.in_ok-culprits.ensures) nets) c.sentence.ensures
