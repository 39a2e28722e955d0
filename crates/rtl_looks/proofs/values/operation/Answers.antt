use Rattle.std.proofs.Common.{◌++◌, ◌+◌, max, length, List, Option, refl, sym, ap, ◌∙◌, subst}
use Rattle.std.proofs.lemmas.Result.{IfOk-weaker}
use Rattle.rtl_model.specs.bodies.Body as m
use Rattle.rtl_model.specs.bodies.Looks.{operation_looks}
use Rattle.rtl_net.specs.declared.body.Operator.{Operator}
use Rattle.rtl_net.specs.Bodies.{operator_view}
use Rattle.rtl_looks.specs.declared.hubs.Look.{Look}
use Rattle.rtl_looks.specs.Evaluating.{Combines}
use Rattle.rtl_looks.proofs.Operands.{appended, arithmetic}
use Rattle.rtl_looks.proofs.Shifting.{greatest}
use Rattle.rtl_looks.proofs.values.operation.Goals as goal

pub returns-in_ok-extend_from_slice-in-Concatenate : goal.returns-in_ok-extend_from_slice-in-Concatenate
returns-in_ok-extend_from_slice-in-Concatenate c =
    let hs = c.args.hubs.now.hubs.items in
    let ls = c.args.left.now in
    let rs = c.args.right.now in
    let new = c.extend_from_slice.new.self.items in
    subst (λ (o : Operator). Combines (operation_looks (operator_view o)) hs hs ls rs new) (sym c.in-Concatenate.is)
    (subst (λ (xs : List (Option Look)). Combines (operation_looks m.joined) hs hs ls rs xs)
    (sym (c.in_ok-extend_from_slice-in-Concatenate.ensures.items ∙ ap (λ (xs : List (Option Look)). xs ++ rs) c.in_ok-both-in-Concatenate.ensures.items))
    (appended hs ls rs))

pub returns-in-Add : goal.returns-in-Add
returns-in-Add c =
    IfOk-weaker c.all_in_each.result _ _
    (λ v h. subst (λ (o : Operator). Combines (operation_looks (operator_view o)) c.args.hubs.now.hubs.items c.all_in_each.new.hubs.hubs.items c.args.left.now c.args.right.now v.items) (sym c.in-Add.is)
    (arithmetic _ m.plus (λ ls rs. refl) (c.max.ensures ∙ greatest (length c.args.left.now) (length c.args.right.now)) h)) c.all_in_each.ensures

pub returns-in-Subtract : goal.returns-in-Subtract
returns-in-Subtract c =
    IfOk-weaker c.all_in_each-in-Subtract.result _ _
    (λ v h. subst (λ (o : Operator). Combines (operation_looks (operator_view o)) c.args.hubs.now.hubs.items c.all_in_each-in-Subtract.new.hubs.hubs.items c.args.left.now c.args.right.now v.items) (sym c.in-Subtract.is)
    (arithmetic _ m.minus (λ ls rs. refl) (c.max-in-Subtract.ensures ∙ greatest (length c.args.left.now) (length c.args.right.now)) h)) c.all_in_each-in-Subtract.ensures

pub returns-in-Multiply : goal.returns-in-Multiply
returns-in-Multiply c =
    IfOk-weaker c.all_in_each-in-Multiply.result _ _
    (λ v h. subst (λ (o : Operator). Combines (operation_looks (operator_view o)) c.args.hubs.now.hubs.items c.all_in_each-in-Multiply.new.hubs.hubs.items c.args.left.now c.args.right.now v.items) (sym c.in-Multiply.is)
    (arithmetic _ m.times (λ ls rs. refl) refl h)) c.all_in_each-in-Multiply.ensures

pub returns-in-Signed : goal.returns-in-Signed
returns-in-Signed c =
    IfOk-weaker c.all_in_each-in-Signed.result _ _
    (λ v h. subst (λ (o : Operator). Combines (operation_looks (operator_view o)) c.args.hubs.now.hubs.items c.all_in_each-in-Signed.new.hubs.hubs.items c.args.left.now c.args.right.now v.items) (sym c.in-Signed.is)
    (arithmetic _ (m.signed c.in-Signed.operator) (λ ls rs. refl) c.length.ensures h)) c.all_in_each-in-Signed.ensures
