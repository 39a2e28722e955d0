use Rattle.std.proofs.Common.{option_map, sym, ap, ◌∙◌}
use Rattle.vhdl_tree.specs.View.{constraint_view}
use Rattle.vhdl_names_trees.specs.views.Integers.{subtype_view}
use Rattle.vhdl_names_rules.specs.views.Ranges.{base_view}
use Rattle.vhdl_names_rules.specs.problems.Broken.{of_any}
use Rattle.vhdl_names_rules.proofs.Telling.{told_same}
use Rattle.vhdl_names_rules.proofs.Passing.{passed_on, told_by}
use Rattle.vhdl_names_values.specs.Constraining.{constraint_breaks}
use Rattle.vhdl_names_values.specs.Marking.{integers_with, ranged_integers}
use Rattle.vhdl_names_values.proofs.integers.integer_subtype.Goals as goal

pub returns-in-None-clause-given : goal.returns-in-None-clause-given
returns-in-None-clause-given c = ap (λ o. integers_with c.args.sight.now (base_view c.args.base) (option_map constraint_view o)) c.in-None.is

pub returns-in_err-range-in-Some-clause-given : goal.returns-in_err-range-in-Some-clause-given
returns-in_err-range-in-Some-clause-given c =
    passed_on subtype_view _ c.in_err-range-in-Some.field-0.0 _ c.from_residual.result c.from_residual.ensures.1 (λ e p. p)
    (λ w. ap (λ o. integers_with c.args.sight.now (base_view c.args.base) (option_map constraint_view o)) c.in-Some.is ∙ ap (ranged_integers (base_view c.args.base)) (c.in_err-range-in-Some.ensures.given w))

pub returns-in_err-range-in-Some-clause-told : goal.returns-in_err-range-in-Some-clause-told
returns-in_err-range-in-Some-clause-told c =
    told_by _ c.in_err-range-in-Some.field-0.0 _ c.from_residual.result c.from_residual.ensures.1 (λ e p. p)
    (told_same _ _ c.in_err-range-in-Some.field-0.0 (sym (ap (λ o. of_any (constraint_breaks c.args.sight.now c.args.indication.now.mark.at) (option_map constraint_view o)) c.in-Some.is)) c.in_err-range-in-Some.ensures.told)

pub returns-in_ok-range-in-Some-clause-given : goal.returns-in_ok-range-in-Some-clause-given
returns-in_ok-range-in-Some-clause-given c =
    ap (λ o. integers_with c.args.sight.now (base_view c.args.base) (option_map constraint_view o)) c.in-Some.is ∙ ap (ranged_integers (base_view c.args.base)) c.in_ok-range-in-Some.ensures.given
