use Rattle.std.proofs.Common.{sym}
use Rattle.std.specs.Prelude.{IfErr}
use Rattle.vhdl_tree.specs.View as tree
use Rattle.vhdl_names_units.specs.views.Answers.{choice_view}
use Rattle.vhdl_names_rules.specs.declared.fault.NameProblem.TheVariants.{ChoiceTwice}
use Rattle.vhdl_names_rules.specs.problems.Broken.{Tells, refused}
use Rattle.vhdl_names_rules.specs.problems.Places.{choice_place}
use Rattle.vhdl_names_units.specs.Once.{names_view}
use Rattle.vhdl_names_statements.specs.steps.Told as told
use Rattle.vhdl_names_statements.proofs.steps.Choosing.{once_refused, answer_told, answer_kept, answer_added}
use Rattle.vhdl_names_rules.proofs.Passing.{told_by}
use Rattle.vhdl_names_statements.proofs.choices.add_written.Goals as goal

pub returns-in_err-analysed-clause-told : goal.returns-in_err-analysed-clause-told
returns-in_err-analysed-clause-told c =
    let s = c.args.sight.now in
    let w = tree.choice_view c.args.written.now in
    let h : Tells (told.once s c.args.selected (names_view c.args.keys.now) w) c.in_err-analysed.field-0.0 =
    once_refused s c.args.selected (names_view c.args.keys.now) w c.in_err-analysed.field-0.0 c.in_err-analysed.ensures.told in
    told_by _ c.in_err-analysed.field-0.0 _ c.from_residual.result c.from_residual.ensures.1 (λ e p. p) h

pub returns-clause-added : goal.returns-clause-added
returns-clause-added c =
    answer_added c.args.sight.now c.args.selected (names_view c.args.keys.now) (names_view c.add_choice.new.keys) (tree.choice_view c.args.written.now)
    (choice_view c.in_ok-analysed.analysed) c.in_ok-analysed.ensures.given c.add_choice.result c.add_choice.ensures.given

pub returns-clause-kept : goal.returns-clause-kept
returns-clause-kept c =
    answer_kept c.args.sight.now c.args.selected (names_view c.args.keys.now) (names_view c.add_choice.new.keys) (tree.choice_view c.args.written.now)
    (choice_view c.in_ok-analysed.analysed) c.in_ok-analysed.ensures.given c.add_choice.result c.add_choice.ensures.given

pub returns-clause-told : goal.returns-clause-told
returns-clause-told c =
    let twice : IfErr c.add_choice.result (Tells (refused ChoiceTwice (choice_place (tree.choice_view c.args.written.now)))) =
    rw (sym c.choice_start.ensures) c.add_choice.ensures.told in
    answer_told c.args.sight.now c.args.selected (names_view c.args.keys.now) (names_view c.add_choice.new.keys) (tree.choice_view c.args.written.now)
    (choice_view c.in_ok-analysed.analysed) c.in_ok-analysed.ensures.given c.add_choice.result c.add_choice.ensures.given twice
