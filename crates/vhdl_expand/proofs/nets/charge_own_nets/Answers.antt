use Rattle.std.proofs.Common.{◌<◌, length, rules, arith}
use Rattle.vhdl_expand_tree.specs.Views.{budget_view}
use Rattle.vhdl_expand.proofs.OwnNets.{nets_go, nets_stop, nets_end}
use Rattle.vhdl_expand.proofs.Passing.{passed_told}
use Rattle.vhdl_expand.proofs.nets.charge_own_nets.Goals as goal

pub loop-object-preserved : goal.loop-object-preserved
loop-object-preserved c =
    let below : c.loop-object.object-index < length c.args.objects.now = first_of (search rules, omega arith) in
    nets_go _ (budget_view c.loop-object.budget) _ c.args.objects.now c.loop-object.object-index c.object-item.result c.own_elements.result below c.object-item.is c.own_elements.ensures
    c.loop-object.invariant c.in_ok-charge_nets.ensures.spent

pub returns : goal.returns
returns c = nets_end _ (budget_view c.loop-object.budget) c.args.objects.now c.loop-object.object-index (omega arith) c.loop-object.invariant

pub returns-in_err-charge_nets : goal.returns-in_err-charge_nets
returns-in_err-charge_nets c =
    let below : c.loop-object.object-index < length c.args.objects.now = first_of (search rules, omega arith) in
    let fault = c.in_err-charge_nets.field-0.0 in
    let stopped = nets_stop _ (budget_view c.loop-object.budget) c.args.objects.now c.loop-object.object-index c.object-item.result c.own_elements.result fault below c.object-item.is c.own_elements.ensures
    c.loop-object.invariant c.in_err-charge_nets.ensures.spent c.in_err-charge_nets.ensures.fault in
    passed_told _ _ fault _ c.from_residual.result c.from_residual.ensures.1 (λ e p. p) (λ _. stopped)
