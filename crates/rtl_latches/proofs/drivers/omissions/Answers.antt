use Rattle.std.proofs.Common.{ap, ◌∙◌}
use Rattle.std.proofs.lemmas.Result.{IfOk-weaker}
use Rattle.rtl_latches.specs.Parts.{Told, left_at}
use Rattle.rtl_latches.proofs.drivers.omissions.Goals as goal

pub returns : goal.returns
returns c = IfOk-weaker c.first_places.result _ _
    (λ places found n. found n ∙ (ap (left_at n) c.deref.ensures.value ∙ ap (λ (t : Told). t.left) (c.in_ok-part.ensures.told n))) c.first_places.ensures
