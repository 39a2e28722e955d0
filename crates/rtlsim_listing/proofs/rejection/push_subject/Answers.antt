use Rattle.std.proofs.Common.{◌++◌, codes, ap, ◌∙◌}
use Rattle.std.proofs.lemmas.Result.{IfOk-equal}
use Rattle.rtlsim_listing.specs.CheckText.{member_text}
use Rattle.rtlsim_listing.proofs.rejection.push_subject.Goals as goal

pub returns-in_ok-name-in-ProcessNet : goal.returns-in_ok-name-in-ProcessNet
returns-in_ok-name-in-ProcessNet c =
    rw c.in-ProcessNet.is (IfOk-equal c.push_at.result _ _ _ c.push_at.ensures
    (ap (λ t. c.args.line.now.items ++ (member_text c.args.net.now c.in-ProcessNet.process ++ codes " net " ++ t)) (c.deref.ensures.value ∙ c.in_ok-name-in-ProcessNet.ensures)))

pub returns-in_ok-name-in-Element : goal.returns-in_ok-name-in-Element
returns-in_ok-name-in-Element c =
    rw c.in-Element.is (IfOk-equal c.push_at-in-Element.result _ _ _ c.push_at-in-Element.ensures
    (ap (λ t. c.args.line.now.items ++ (member_text c.args.net.now c.in-Element.process ++ codes " variable " ++ t)) (c.deref-in-Element.ensures.value ∙ c.in_ok-name-in-Element.ensures)))
