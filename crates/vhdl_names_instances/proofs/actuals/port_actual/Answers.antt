use Rattle.std.proofs.Common.{true, false, ap, refl, sym, ◌∙◌, subst}
use Rattle.vhdl_tree.specs.View.{view, name_view}
use Rattle.vhdl_names_rules.specs.declared.fault.NameProblem.TheVariants.{TypeMismatch, WriteOfIn, LeftOut}
use Rattle.vhdl_names_rules.specs.problems.Broken.{Tells, refused}
use Rattle.vhdl_names_rules.specs.problems.Places.{start}
use Rattle.vhdl_names_rules.specs.problems.Instances.{port_actual}
use Rattle.vhdl_names_rules.proofs.Passing.{told_by}
use Rattle.vhdl_names_units.specs.views.Answers.{signal_name_view}
use Rattle.vhdl_names_instances.specs.steps.Actuals.{formal}
use Rattle.vhdl_names_instances.proofs.Actual.{no_name_told, no_signal_told, other_type_told, not_joined_told}
use Rattle.vhdl_names_instances.proofs.actuals.port_actual.Goals as goal

pub returns-in-None-clause-told : goal.returns-in-None-clause-told
returns-in-None-clause-told c =
    no_name_told c.args.sight.now (formal c.args.port) (view c.args.e.now) c.at.result (sym c.in-None.ensures)
    (subst (Tells (refused LeftOut (start (view c.args.e.now)))) (sym c.at.ensures) (ap (refused LeftOut) (sym c.start.ensures)))

pub returns-in_err-actual-in-Some-clause-told : goal.returns-in_err-actual-in-Some-clause-told
returns-in_err-actual-in-Some-clause-told c =
    let f : Tells (port_actual c.args.sight.now (formal c.args.port) (view c.args.e.now)) c.in_err-actual-in-Some.field-0.0 =
    no_signal_told c.args.sight.now (formal c.args.port) (view c.args.e.now) c.in_err-actual-in-Some.field-0.0 (name_view c.in-Some.name.now) (sym c.in-Some.ensures)
    c.in_err-actual-in-Some.ensures.told in
    told_by _ c.in_err-actual-in-Some.field-0.0 _ c.from_residual.result c.from_residual.ensures.1 (λ e p. p) f

pub returns-then-not-is_type-clause-told : goal.returns-then-not-is_type-clause-told
returns-then-not-is_type-clause-told c =
    let q = c.if-not-is_type.true in
    other_type_told c.args.sight.now (formal c.args.port) (view c.args.e.now) c.at-then-not-is_type.result (name_view c.in-Some.name.now) (sym c.in-Some.ensures)
    (signal_name_view c.in_ok-actual-in-Some.actual) c.in_ok-actual-in-Some.ensures.given (sym c.is_type.ensures ∙ q)
    (subst (Tells (refused TypeMismatch c.in-Some.name.now.identifier.at)) (sym c.at-then-not-is_type.ensures) refl)

pub returns-then-not-may_join-clause-told : goal.returns-then-not-may_join-clause-told
returns-then-not-may_join-clause-told c =
    let k = c.if-not-is_type.false in
    let q = c.if-not-may_join.true in
    not_joined_told c.args.sight.now (formal c.args.port) (view c.args.e.now) c.at-then-not-may_join.result (name_view c.in-Some.name.now) (sym c.in-Some.ensures)
    (signal_name_view c.in_ok-actual-in-Some.actual) c.in_ok-actual-in-Some.ensures.given (sym c.is_type.ensures ∙ k) (sym c.may_join.ensures ∙ q)
    (subst (Tells (refused WriteOfIn c.in-Some.name.now.identifier.at)) (sym c.at-then-not-may_join.ensures) refl)
