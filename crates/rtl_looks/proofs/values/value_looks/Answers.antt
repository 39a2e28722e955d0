use Rattle.std.proofs.Common.{[], ◌∷◌, replicate, Option, sym, ap, ◌∙◌}
use Rattle.std.proofs.lemmas.Result.{IfOk-weaker}
use Rattle.rtl_model.specs.bodies.Assigns.{element}
use Rattle.rtl_model.specs.bodies.Looks.{net_now, value_looks}
use Rattle.rtl_net.specs.declared.body.Value.{Value}
use Rattle.rtl_net.specs.Bodies.{value_view}
use Rattle.rtl_looks.specs.declared.hubs.Look.{Look}
use Rattle.rtl_looks.proofs.Joining.{nothing}
use Rattle.rtl_looks.proofs.Operands.{of_one, with_looks, as_evaluates, net_denotes}
use Rattle.rtl_looks.proofs.values.value_looks.Goals as goal

pub returns-in-Position : goal.returns-in-Position
returns-in-Position c =
    IfOk-weaker c.repeated.result _ _
    (λ v h. as_evaluates _ (λ so_far. sym (ap (λ (x : Value). value_looks so_far (value_view x)) c.in-Position.is))
    (with_looks _ (sym h) (of_one (λ so_far. []) (λ so_far known. nothing (known 0).order)))) c.repeated.ensures

pub returns-in-PositionOf : goal.returns-in-PositionOf
returns-in-PositionOf c =
    IfOk-weaker c.repeated-in-PositionOf.result _ _
    (λ v h. as_evaluates _ (λ so_far. sym (ap (λ (x : Value). value_looks so_far (value_view x)) c.in-PositionOf.is))
    (with_looks _ (sym h) (of_one (λ so_far. net_now c.in-PositionOf.net ∷ []) (λ so_far known. net_denotes (known 0).order c.in-PositionOf.net)))) c.repeated-in-PositionOf.ensures

pub returns-in-PositionIn : goal.returns-in-PositionIn
returns-in-PositionIn c =
    IfOk-weaker c.repeated-in-PositionIn.result _ _
    (λ v h. as_evaluates _ (λ so_far. sym (ap (λ (x : Value). value_looks so_far (value_view x)) c.in-PositionIn.is))
    (with_looks _ (sym (h ∙ ap (λ (o : Option Look). replicate 1 o) c.at.ensures)) (of_one (λ so_far. so_far (element c.in-PositionIn.element)) (λ so_far known. known c.in-PositionIn.element)))) c.repeated-in-PositionIn.ensures
