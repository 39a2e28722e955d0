use Rattle.std.proofs.Common.{Err, ◌≡◌, ◌<◌, length, map, ap, arith}
use Rattle.std.specs.Prelude.{◌≢◌}
use Rattle.rtl_net.specs.Bodies.{choice_view}
use Rattle.vhdl_names_units.specs.views.Answers as answers
use Rattle.vhdl_expand_rules.specs.declared.fault.ElabFault.TheVariants.{NoMemory}
use Rattle.vhdl_expand_rules.specs.Elab.{each, fault_told}
use Rattle.vhdl_expand_rules.specs.Statements as definition
use Rattle.vhdl_expand_rules.proofs.Items.{none_left}
use Rattle.vhdl_expand_operands.proofs.Passing.{passed_on, none_behind}
use Rattle.vhdl_expand_operands.proofs.Several.{each_adds, each_refuses, each_ends}
use Rattle.vhdl_expand_choices.proofs.coding.choices.Goals as goal

pub loop-item-init : goal.loop-item-init
loop-item-init c =
    none_behind _ (each (definition.choice c.args.at c.args.width.len) (map answers.choice_view c.args.list.now)) (ap (map choice_view) c.new-choices.ensures.items)

pub loop-item-preserved : goal.loop-item-preserved
loop-item-preserved c =
    let i = c.loop-item.item-index in
    let below : i < length c.args.list.now = omega arith in
    each_adds (definition.choice c.args.at c.args.width.len) answers.choice_view choice_view _ c.loop-item.choices.items c.add.new.list.items c.args.list.now i c.item-item.result c.choice.result below c.item-item.is c.loop-item.invariant c.choice.ensures c.in_ok-add.ensures

pub returns-in_err-add : goal.returns-in_err-add
returns-in_err-add c =
    let i = c.loop-item.item-index in
    let below : i < length c.args.list.now = omega arith in
    let stopped : c.in_err-add.field-0.0 ≢ NoMemory → each (definition.choice c.args.at c.args.width.len) (map answers.choice_view c.args.list.now) ≡ Err (fault_told c.in_err-add.field-0.0) =
    each_refuses (definition.choice c.args.at c.args.width.len) answers.choice_view choice_view _ c.loop-item.choices.items c.add.new.list.items c.args.list.now i c.item-item.result c.choice.result c.in_err-add.field-0.0 below c.item-item.is c.loop-item.invariant c.choice.ensures c.in_err-add.ensures in
    passed_on _ _ c.in_err-add.field-0.0 _ c.from_residual.result c.from_residual.ensures.1 (λ e p. p) stopped

pub returns : goal.returns
returns c =
    each_ends (definition.choice c.args.at c.args.width.len) answers.choice_view _ (map choice_view c.loop-item.choices.items) _ (none_left c.args.list.now c.loop-item.item-index (omega arith)) c.loop-item.invariant
