use Rattle.std.proofs.Common.{option_map, ap, ◌∙◌}
use Rattle.vhdl_tree.specs.View.{ident_view, subtype_view, constraint_view}
use Rattle.vhdl_names_rules.specs.Rules.{◌>>=◌}
use Rattle.vhdl_names_rules.specs.Subtypes.{subtype}
use Rattle.vhdl_names_rules.proofs.Along.{gives_along}
use Rattle.vhdl_names_units.specs.views.Answers as answers
use Rattle.vhdl_names_sight.specs.Views.{entry_of}
use Rattle.vhdl_names_values.specs.Marking.{marked_alone, marked_with}
use Rattle.vhdl_names_values.proofs.Marks as marks
use Rattle.vhdl_names_values.proofs.BreakingValues.{subtype_alone, subtype_ranged}
use Rattle.vhdl_names_rules.proofs.Passing.{told_first}
use Rattle.vhdl_names_values.proofs.subtypes.subtype.Goals as goal

pub returns-in_err-entry-clause-told : goal.returns-in_err-entry-clause-told
returns-in_err-entry-clause-told c = told_first _ _ _ _ c.from_residual.result c.from_residual.ensures.1 (λ e p. p) c.in_err-entry.ensures.told

pub returns-in-None-clause-given : goal.returns-in-None-clause-given
returns-in-None-clause-given c =
    let s = c.args.sight.now in
    let mark = ident_view c.args.indication.now.mark in
    gives_along answers.subtype_view _ _ _
    (ap (λ o. subtype s (record { mark = mark; constraint = option_map constraint_view o })) c.in-None.is
    ∙ marks.subtype_alone s mark ∙ ap (λ o. o >>= λ m. marked_alone m) c.in_ok-entry.ensures.declared)
    (c.marked.ensures.given mark.text)

pub returns-in-Some-clause-given : goal.returns-in-Some-clause-given
returns-in-Some-clause-given c =
    let s = c.args.sight.now in
    let mark = ident_view c.args.indication.now.mark in
    let k = constraint_view c.in-Some.constraint in
    gives_along answers.subtype_view _ _ _
    (ap (λ o. subtype s (record { mark = mark; constraint = option_map constraint_view o })) c.in-Some.is
    ∙ marks.subtype_ranged s mark k ∙ ap (λ o. o >>= λ m. marked_with s m k) c.in_ok-entry.ensures.declared)
    (c.ranged.ensures.given mark.text)

pub returns-in-None-clause-told : goal.returns-in-None-clause-told
returns-in-None-clause-told c =
    let n = c.args.indication.now.mark.text.items in
    subtype_alone c.args.sight.now (subtype_view c.args.indication.now) (entry_of n c.in_ok-entry.entry.now) _ c.in_ok-entry.ensures.declared
    (ap (option_map constraint_view) c.in-None.is) (c.marked.ensures.told n)

pub returns-in-Some-clause-told : goal.returns-in-Some-clause-told
returns-in-Some-clause-told c =
    let n = c.args.indication.now.mark.text.items in
    subtype_ranged c.args.sight.now (subtype_view c.args.indication.now) (entry_of n c.in_ok-entry.entry.now) (constraint_view c.in-Some.constraint) _ c.in_ok-entry.ensures.declared
    (ap (option_map constraint_view) c.in-Some.is) (c.ranged.ensures.told n)
