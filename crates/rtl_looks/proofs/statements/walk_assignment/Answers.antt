use Rattle.std.proofs.lemmas.Result.{on_ok_weaker}
use Rattle.rtl_looks.proofs.Walking.{assigned_walked}
use Rattle.rtl_looks.proofs.statements.walk_assignment.Goals as goal

pub returns : goal.returns
returns c =
    on_ok_weaker c.assign.result
    (λ h. assigned_walked c.in_ok-looks.ensures (rw (c.deref-2.ensures.value, c.deref.ensures.value, c.in_ok-numbers.ensures) at h)) c.assign.ensures
