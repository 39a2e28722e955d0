use Rattle.std.proofs.Common.{arith, ◌<◌, length, map, refl, sym, ◌∙◌}
use Rattle.std.proofs.lemmas.List.{at_drop_all}
use Rattle.vhdl_tree.specs.View as tree
use Rattle.vhdl_names_rules.specs.problems.Broken.{Tells}
use Rattle.vhdl_names_units.specs.Once.{names_view}
use Rattle.vhdl_names_statements.specs.steps.Told as told
use Rattle.vhdl_names_statements.proofs.steps.Choosing.{next_told, next_left, next_added}
use Rattle.vhdl_names_rules.proofs.Passing.{told_by}
use Rattle.vhdl_names_statements.proofs.choices.add_each.Goals as goal

pub returns-in_err-add_written-clause-told : goal.returns-in_err-add_written-clause-told
returns-in_err-add_written-clause-told c =
    let s = c.args.sight.now in
    let xs = c.args.list.now in
    let i = c.loop-written.written-index in
    let lt : c.loop-written.written-index < length c.args.list.now = omega arith in
    let h : Tells (told.each_once s c.args.selected (names_view c.args.keys.now) (map tree.choice_view xs)) c.in_err-add_written.field-0.0 =
    next_told s c.args.selected xs i c.written-item.result lt c.written-item.is (names_view c.args.keys.now) (names_view c.loop-written.keys) c.in_err-add_written.field-0.0
    c.loop-written.invariant.1 c.in_err-add_written.ensures.told in
    told_by _ c.in_err-add_written.field-0.0 _ c.from_residual.result c.from_residual.ensures.1 (λ e p. p) h

pub loop-written-init : goal.loop-written-init
loop-written-init c = (refl, refl)

pub loop-written-preserved : goal.loop-written-preserved
loop-written-preserved c =
    let s = c.args.sight.now in
    let xs = c.args.list.now in
    let i = c.loop-written.written-index in
    let lt : c.loop-written.written-index < length c.args.list.now = omega arith in
    let old = names_view c.args.keys.now in
    let keys = names_view c.loop-written.keys in
    let new = names_view c.add_written.new.keys in (
      next_added s c.args.selected xs i c.written-item.result lt c.written-item.is old keys new c.loop-written.invariant.0 c.in_ok-add_written.ensures.added,
      next_left s c.args.selected xs i c.written-item.result lt c.written-item.is old keys new c.loop-written.invariant.1 c.in_ok-add_written.ensures.kept c.in_ok-add_written.ensures.added,
    )

pub returns-clause-added : goal.returns-clause-added
returns-clause-added c =
    sym (c.loop-written.invariant.0
    ∙ at_drop_all (λ l. told.with_list c.args.sight.now c.args.selected (names_view c.loop-written.keys) (map tree.choice_view l)) c.args.list.now c.loop-written.written-index c.loop-written-test.false)

pub returns-clause-kept : goal.returns-clause-kept
returns-clause-kept c =
    c.loop-written.invariant.1
    ∙ at_drop_all (λ l. told.each_once c.args.sight.now c.args.selected (names_view c.loop-written.keys) (map tree.choice_view l)) c.args.list.now c.loop-written.written-index c.loop-written-test.false
