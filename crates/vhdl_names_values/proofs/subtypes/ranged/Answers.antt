use Rattle.std.proofs.Common.{Some, None, option_map, sym, ap, ◌∙◌}
use Rattle.vhdl_tree.specs.View.{constraint_view}
use Rattle.vhdl_names_sight.specs.Views.{meaning_view, entry_of}
use Rattle.vhdl_names_rules.specs.declared.fault.NameProblem.TheVariants.{LeftOut}
use Rattle.vhdl_names_rules.specs.Rules.{◌>>=◌}
use Rattle.vhdl_names_rules.specs.Subtypes.{marked, one_range, index_range}
use Rattle.vhdl_names_trees.specs.views.Integers.{range_view}
use Rattle.vhdl_names_rules.specs.views.Ranges.{declared_range_view}
use Rattle.vhdl_names_units.specs.views.Answers.{subtype_view}
use Rattle.vhdl_names_rules.specs.problems.Broken.{unless}
use Rattle.vhdl_names_rules.specs.problems.Subtypes.{mark_problem, marked_by, is_marked, constraint}
use Rattle.vhdl_names_rules.proofs.Telling.{told_same, told_left, told_right}
use Rattle.vhdl_names_rules.proofs.Passing.{passed_on, told_by}
use Rattle.vhdl_names_values.specs.Marking.{marked_with}
use Rattle.vhdl_names_values.proofs.Marks.{no_range, ranged_twice}
use Rattle.vhdl_names_values.proofs.BreakingValues.{unmarked, marked_twice, marked_behind_range, marked_range, misfit}
use Rattle.vhdl_names_values.proofs.subtypes.ranged.Goals as goal

pub returns-in-Some-clause-given : goal.returns-in-Some-clause-given
returns-in-Some-clause-given c =
    λ n w. ap (λ q. index_range c.args.sight.now (constraint_view c.args.constraint.now) >>= λ r. (one_range (option_map declared_range_view q) (Some r) >>= λ x. marked (meaning_view c.args.entry.now.meaning) x)) c.in-Some.is
    ∙ ranged_twice (index_range c.args.sight.now (constraint_view c.args.constraint.now)) (declared_range_view c.in-Some.field-0) c.args.entry.now.meaning

pub returns-in-Some-clause-told : goal.returns-in-Some-clause-told
returns-in-Some-clause-told c =
    λ n. told_left (unless (mark_problem (meaning_view c.args.entry.now.meaning)) c.args.at (is_marked (entry_of n c.args.entry.now) (Some (constraint_view c.args.constraint.now)))) (constraint c.args.sight.now (constraint_view c.args.constraint.now)) _
    (misfit (mark_problem (meaning_view c.args.entry.now.meaning)) LeftOut (is_marked (entry_of n c.args.entry.now) (Some (constraint_view c.args.constraint.now))) c.args.at _
    (ap (λ q. marked_by (meaning_view c.args.entry.now.meaning) (option_map declared_range_view q) (Some (constraint_view c.args.constraint.now))) c.in-Some.is ∙ marked_twice (meaning_view c.args.entry.now.meaning) _ (constraint_view c.args.constraint.now))
    (sym (ap (λ m. mark_problem (meaning_view m)) c.in-VectorType.is)) c.at.ensures)

pub returns-in-Range-clause-given : goal.returns-in-Range-clause-given
returns-in-Range-clause-given c = λ n w. ap (λ x. marked_with c.args.sight.now (entry_of n c.args.entry.now) (constraint_view x)) c.in-Range.is

pub returns-in-Range-clause-told : goal.returns-in-Range-clause-told
returns-in-Range-clause-told c =
    λ n. told_left (unless (mark_problem (meaning_view c.args.entry.now.meaning)) c.args.at (is_marked (entry_of n c.args.entry.now) (Some (constraint_view c.args.constraint.now)))) (constraint c.args.sight.now (constraint_view c.args.constraint.now)) _
    (misfit (mark_problem (meaning_view c.args.entry.now.meaning)) LeftOut (is_marked (entry_of n c.args.entry.now) (Some (constraint_view c.args.constraint.now))) c.args.at _
    (ap (λ x. marked_by (meaning_view c.args.entry.now.meaning) (option_map declared_range_view c.args.entry.now.range) (Some (constraint_view x))) c.in-Range.is ∙ marked_behind_range (meaning_view c.args.entry.now.meaning) (option_map declared_range_view c.args.entry.now.range) _)
    (sym (ap (λ m. mark_problem (meaning_view m)) c.in-VectorType.is)) c.at-in-Range.ensures)

pub returns-in_err-range-in-Index-clause-given : goal.returns-in_err-range-in-Index-clause-given
returns-in_err-range-in-Index-clause-given c =
    λ n. passed_on subtype_view _ c.in_err-range-in-Index.field-0.0 _ c.from_residual.result c.from_residual.ensures.1 (λ e p. p)
    (λ w. ap (λ x. marked_with c.args.sight.now (entry_of n c.args.entry.now) (constraint_view x)) c.in-Index.is ∙ ap (λ o. o >>= λ r. (one_range (option_map declared_range_view c.args.entry.now.range) (Some r) >>= λ x. marked (meaning_view c.args.entry.now.meaning) x)) (c.in_err-range-in-Index.ensures.given w))

pub returns-in_err-range-in-Index-clause-told : goal.returns-in_err-range-in-Index-clause-told
returns-in_err-range-in-Index-clause-told c =
    λ n. told_by _ c.in_err-range-in-Index.field-0.0 _ c.from_residual.result c.from_residual.ensures.1 (λ e p. p)
    (told_right (unless (mark_problem (meaning_view c.args.entry.now.meaning)) c.args.at (is_marked (entry_of n c.args.entry.now) (Some (constraint_view c.args.constraint.now)))) (constraint c.args.sight.now (constraint_view c.args.constraint.now)) c.in_err-range-in-Index.field-0.0
    (ap (unless (mark_problem (meaning_view c.args.entry.now.meaning)) c.args.at) (ap (λ q. marked_by (meaning_view c.args.entry.now.meaning) (option_map declared_range_view q) (Some (constraint_view c.args.constraint.now))) c.in-None.is
    ∙ ap (λ x. marked_by (meaning_view c.args.entry.now.meaning) None (Some (constraint_view x))) c.in-Index.is ∙ marked_range c.args.entry.now.meaning _ _ c.in-VectorType.is _))
    (told_same _ _ c.in_err-range-in-Index.field-0.0 (sym (ap (λ x. constraint c.args.sight.now (constraint_view x)) c.in-Index.is)) c.in_err-range-in-Index.ensures.told))

pub returns-in_ok-range-in-Index-clause-given : goal.returns-in_ok-range-in-Index-clause-given
returns-in_ok-range-in-Index-clause-given c =
    λ n. ap (λ x. marked_with c.args.sight.now (entry_of n c.args.entry.now) (constraint_view x)) c.in-Index.is ∙ ap (λ o. o >>= λ r. (one_range (option_map declared_range_view c.args.entry.now.range) (Some r) >>= λ x. marked (meaning_view c.args.entry.now.meaning) x)) c.in_ok-range-in-Index.ensures.given
    ∙ ap (λ q. one_range (option_map declared_range_view q) (Some (range_view c.in_ok-range-in-Index.range)) >>= λ x. marked (meaning_view c.args.entry.now.meaning) x) c.in-None.is
    ∙ ap (λ m. marked (meaning_view m) (Some (range_view c.in_ok-range-in-Index.range))) c.in-VectorType.is

pub returns-in_default-clause-given : goal.returns-in_default-clause-given
returns-in_default-clause-given c = λ n w. no_range c.args.entry.now.meaning c.in_default.not-VectorType (index_range c.args.sight.now (constraint_view c.args.constraint.now)) (option_map declared_range_view c.args.entry.now.range)

pub returns-in_default-clause-told : goal.returns-in_default-clause-told
returns-in_default-clause-told c =
    λ n. told_left (unless (mark_problem (meaning_view c.args.entry.now.meaning)) c.args.at (is_marked (entry_of n c.args.entry.now) (Some (constraint_view c.args.constraint.now)))) (constraint c.args.sight.now (constraint_view c.args.constraint.now)) _
    (misfit (mark_problem (meaning_view c.args.entry.now.meaning)) c.mark_problem.result (is_marked (entry_of n c.args.entry.now) (Some (constraint_view c.args.constraint.now))) c.args.at _
    (unmarked c.args.entry.now.meaning c.in_default.not-VectorType (option_map declared_range_view c.args.entry.now.range) (constraint_view c.args.constraint.now))
    (c.mark_problem.ensures) c.at-in_default.ensures)
