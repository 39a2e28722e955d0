use Rattle.std.proofs.Common.{get_or, map, ap, ◌∙◌}
use Rattle.std.proofs.lemmas.List.{get_or_default}
use Rattle.vhdl_expand_rules.specs.Aggregates.{run_value}
use Rattle.vhdl_expand_rules.proofs.Items.{none_left}
use Rattle.vhdl_expand_operands.specs.declared.placed.Neighbours.{Neighbours}
use Rattle.vhdl_expand_operands.specs.Operands.{operand_view}
use Rattle.vhdl_expand_operands.specs.Placings.{placed_view, run_view}
use Rattle.vhdl_expand_operands.proofs.Composing.{numbers_few, run_short, runs_few}
use Rattle.vhdl_expand_operands.proofs.Several.{each_goes, each_ends}
use Rattle.vhdl_expand_operands.proofs.placed.values_at.Goals as goal

pub runs-requires : goal.runs-requires
runs-requires c =
    numbers_few c.args.at _ _ (map placed_view c.args.placed.now) _ _ c.deref.ensures.value c.in_ok-numbers.ensures c.deref-2.ensures.value c.args.indexes.now.few

pub value_for-requires : goal.value_for-requires
value_for-requires c =
    let few = numbers_few c.args.at _ _ (map placed_view c.args.placed.now) _ _ c.deref.ensures.value c.in_ok-numbers.ensures c.deref-2.ensures.value c.args.indexes.now.few in
    run_short c.deref-2.result.now c.deref-run-items.result.now (ap (map run_view) c.deref-run-items.ensures.value ∙ c.in_ok-runs.ensures) few
    c.loop-run.run-index (record { number = 0; count = 0 }) c.loop-run-test.true

pub loop-run-preserved : goal.loop-run-preserved
loop-run-preserved c =
    let items = c.deref-run-items.result.now in
    let i = c.loop-run.run-index in
    let none : Neighbours = record { number = 0; count = 0 } in
    each_goes (run_value c.args.at (map placed_view c.args.placed.now)) run_view _ (map operand_view c.loop-run.row.operands.items) _ items i (get_or items i none) _
    c.loop-run-test.true (get_or_default items i none (get_or items i none) c.loop-run-test.true) c.loop-run.invariant c.in_ok-value_for.ensures c.in_ok-push.ensures

pub returns-clause-few : goal.returns-clause-few
returns-clause-few c =
    let few = numbers_few c.args.at _ _ (map placed_view c.args.placed.now) _ _ c.deref.ensures.value c.in_ok-numbers.ensures c.deref-2.ensures.value c.args.indexes.now.few in
    let items = c.deref-run-items.result.now in
    let row = map operand_view c.loop-run.row.operands.items in
    let all = each_ends (run_value c.args.at (map placed_view c.args.placed.now)) run_view _ row _ (none_left items c.loop-run.run-index c.loop-run-test.false) c.loop-run.invariant in
    runs_few c.deref-2.result.now items (ap (map run_view) c.deref-run-items.ensures.value ∙ c.in_ok-runs.ensures) few c.args.at c.args.placed.now row c.loop-run.row.len
    all c.loop-run.row.counted
