use Rattle.std.proofs.Common.{refl, sym, subst}
use Rattle.vhdl_tree.specs.View.{name_view}
use Rattle.vhdl_names_rules.specs.declared.fault.NameProblem.TheVariants.{LeftOut}
use Rattle.vhdl_names_rules.specs.Statements.{signal}
use Rattle.vhdl_names_rules.specs.problems.Broken.{Tells, ◌▸◌, refused}
use Rattle.vhdl_names_rules.specs.problems.Statements.{named}
use Rattle.vhdl_names_trees.specs.views.Expressions.{typed_suffix_view}
use Rattle.vhdl_names_rules.proofs.Passing.{told_by}
use Rattle.vhdl_names_units.specs.views.Answers.{signal_name_view}
use Rattle.vhdl_names_instances.proofs.Actual.{value_is_no_signal, suffix_told, value_told}
use Rattle.vhdl_names_instances.proofs.Told.{refused_gives}
use Rattle.vhdl_names_instances.proofs.actuals.signal_of_value.Goals as goal

pub returns-in_err-typed_suffix-clause-given : goal.returns-in_err-typed_suffix-clause-given
returns-in_err-typed_suffix-clause-given c = λ h.
    let s = c.args.sight.now in
    let n = name_view c.args.name.now in
    refused_gives signal_name_view (signal s n) _ c.from_residual.result c.from_residual.ensures.1 (value_is_no_signal s n h)

pub returns-in_err-typed_suffix-clause-told : goal.returns-in_err-typed_suffix-clause-told
returns-in_err-typed_suffix-clause-told c = λ h.
    let s = c.args.sight.now in
    let n = name_view c.args.name.now in
    told_by (named s n ▸ refused LeftOut n.identifier.at) c.in_err-typed_suffix.field-0.0 _ c.from_residual.result c.from_residual.ensures.1 (λ e p. p)
    (suffix_told s n c.in_err-typed_suffix.field-0.0 h c.in_err-typed_suffix.ensures.told)

pub returns-clause-given : goal.returns-clause-given
returns-clause-given c = λ h n. value_is_no_signal c.args.sight.now (name_view c.args.name.now) h

pub returns-clause-told : goal.returns-clause-told
returns-clause-told c = λ h.
    value_told c.args.sight.now (name_view c.args.name.now) c.at.result c.left_out_place.result h (typed_suffix_view c.in_ok-typed_suffix.field-0) c.in_ok-typed_suffix.ensures.given
    c.left_out_place.ensures (subst (Tells (refused LeftOut c.left_out_place.result)) (sym c.at.ensures) refl)
