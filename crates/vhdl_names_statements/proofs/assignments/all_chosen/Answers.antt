use Rattle.std.proofs.Common.{arith, ◌<◌, ◌∷◌, [], length, map, refl, ap, ◌∙◌}
use Rattle.std.proofs.lemmas.List.{map-append}
use Rattle.vhdl_tree.specs.View as tree
use Rattle.vhdl_names_rules.proofs.Memory.{memory_gives, memory_told}
use Rattle.vhdl_names_units.specs.views.Sequential as views
use Rattle.vhdl_names_rules.specs.problems.Concurrent as broken
use Rattle.vhdl_names_statements.specs.steps.Concurrent as steps
use Rattle.vhdl_names_units.proofs.Behind.{next_told, next_left}
use Rattle.vhdl_names_rules.proofs.Passing.{passed_on, told_by}
use Rattle.vhdl_names_statements.proofs.steps.Told.{more_done, none_more}
use Rattle.vhdl_names_statements.proofs.steps.Turns.{none_done, all_done}
use Rattle.vhdl_names_statements.proofs.steps.Assigning.{waveform_kept}
use Rattle.vhdl_names_statements.proofs.assignments.all_chosen.Goals as goal

pub returns-in_err-next : goal.returns-in_err-next
returns-in_err-next c =
    let lt : c.loop-item.item-index < length c.args.list.now = omega arith in
    record {
      given = passed_on _ _ _ _ c.from_residual.result c.from_residual.ensures.1 (λ e p. p) (λ n. none_more tree.waveform_view c.args.list.now c.loop-item.item-index c.item-item.result lt c.item-item.is (steps.chosen c.args.sight.now c.args.selected (tree.name_view c.args.target.now)) (views.alternatives_view c.loop-item.all) _ c.loop-item.invariant.0 (c.in_err-next.ensures.given n));
      told = told_by _ _ _ c.from_residual.result c.from_residual.ensures.1 (λ e p. p) (next_told tree.waveform_view c.args.list.now c.loop-item.item-index c.item-item.result lt c.item-item.is (broken.waveform c.args.sight.now c.args.selected (tree.name_view c.args.target.now)) _ c.loop-item.invariant.1 c.in_err-next.ensures.told);
    }

pub returns-in_err-push : goal.returns-in_err-push
returns-in_err-push c = record { given = memory_gives _ _ _ c.from_residual-in_err-push.result c.from_residual-in_err-push.ensures.1 (λ e p. p); told = memory_told _ _ c.from_residual-in_err-push.result c.from_residual-in_err-push.ensures.1 (λ e p. p) }

pub loop-item-preserved : goal.loop-item-preserved
loop-item-preserved c =
    let lt : c.loop-item.item-index < length c.args.list.now = omega arith in (
      more_done tree.waveform_view c.args.list.now c.loop-item.item-index c.item-item.result lt c.item-item.is (steps.chosen c.args.sight.now c.args.selected (tree.name_view c.args.target.now)) (views.alternatives_view c.loop-item.all) _ (views.alternative_view c.in_ok-next.next) _ c.loop-item.invariant.0
          c.in_ok-next.ensures.given
          (ap (map views.alternative_view) c.in_ok-push.ensures.items ∙ map-append views.alternative_view c.loop-item.all.items (c.in_ok-next.next ∷ [])),
      next_left tree.waveform_view c.args.list.now c.loop-item.item-index c.item-item.result lt c.item-item.is (broken.waveform c.args.sight.now c.args.selected (tree.name_view c.args.target.now)) c.loop-item.invariant.1 (waveform_kept c.args.sight.now (tree.name_view c.args.target.now) c.args.selected (tree.waveform_view c.item-item.result) _ c.in_ok-next.ensures.given),
    )

pub loop-item-init : goal.loop-item-init
loop-item-init c =
    (none_done tree.waveform_view c.args.list.now (steps.chosen c.args.sight.now c.args.selected (tree.name_view c.args.target.now)) _ (ap (map views.alternative_view) c.new-all.ensures.items), refl)

pub returns-clause-given : goal.returns-clause-given
returns-clause-given c =
    all_done tree.waveform_view c.args.list.now (steps.chosen c.args.sight.now c.args.selected (tree.name_view c.args.target.now)) _ c.loop-item.item-index c.loop-item-test.false c.loop-item.invariant.0
