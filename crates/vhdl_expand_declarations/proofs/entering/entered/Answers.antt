use Rattle.std.proofs.Common.{map, ap, sym, ◌∙◌, inl, inr}
use Rattle.std.specs.Prelude.{unwrap_or}
use Rattle.vhdl_tree.specs.Tree.{Ident}
use Rattle.vhdl_tree.specs.View.{ident_view}
use Rattle.vhdl_tree.specs.declared.expression.Identifier.{Identifier}
use Rattle.vhdl_names_rules.specs.units.Units as u
use Rattle.vhdl_names_trees.specs.views.Integers.{static_view, range_view, subtype_view}
use Rattle.vhdl_names_trees.specs.views.Tests.{static_test_view}
use Rattle.vhdl_names_units.specs.declared.declaration.Declaration.{Declaration}
use Rattle.vhdl_names_units.specs.views.Answers.{fixed_view, form_view}
use Rattle.vhdl_names_units.specs.views.Declarations.{declaration_view, object_view}
use Rattle.vhdl_expand_rules.specs.Declarations.{declared}
use Rattle.vhdl_expand_rules.specs.views.Kinds.{bounds_view}
use Rattle.vhdl_expand_operands.proofs.Passing.{expands_along, passed_on}
use Rattle.vhdl_expand_bodies.specs.Sites.{site_view}
use Rattle.vhdl_expand_declarations.specs.Stepwise.{stepwise}
use Rattle.vhdl_expand_declarations.proofs.Names.{named}
use Rattle.vhdl_expand_declarations.proofs.ConstantSteps.{vector_entered, vector_refused, signals_entered, variables_entered}
use Rattle.vhdl_expand_declarations.proofs.entering.entered.Goals as goal

pub returns-in-Integers : goal.returns-in-Integers
returns-in-Integers c =
    let here = site_view c.args.site.now in
    let i = c.in-Integers in
    let f = λ (n : Ident). u.Declaration.integer (unwrap_or i.told_at n.at) (subtype_view i.subtype) (static_view i.value) in
    expands_along _ _ _ _
    (ap (λ x. stepwise declared here (declaration_view x)) i.is
    ∙ ap (stepwise declared here) (named f i.names.items ∙ ap (map (λ (n : Identifier). f (ident_view n))) (sym c.deref.ensures.value)))
    c.integers.ensures

pub returns-in-Truths : goal.returns-in-Truths
returns-in-Truths c =
    let here = site_view c.args.site.now in
    let i = c.in-Truths in
    let f = λ (n : Ident). u.Declaration.truth n.at (static_test_view i.value) in
    expands_along _ _ _ _
    (ap (λ x. stepwise declared here (declaration_view x)) i.is
    ∙ ap (stepwise declared here) (named f i.names.items ∙ ap (map (λ (n : Identifier). f (ident_view n))) (sym c.deref-in-Truths.ensures.value)))
    c.truths.ensures

pub returns-in-Constants : goal.returns-in-Constants
returns-in-Constants c =
    let here = site_view c.args.site.now in
    let i = c.in-Constants in
    let f = λ (n : Ident). u.Declaration.constant n.at (form_view i.form) (fixed_view i.value) in
    expands_along _ _ _ _
    (ap (λ x. stepwise declared here (declaration_view x)) i.is
    ∙ ap (stepwise declared here) (named f i.names.items ∙ ap (map (λ (n : Identifier). f (ident_view n))) (sym c.deref-in-Constants.ensures.value)))
    c.constants.ensures

pub returns-in_ok-bounds-in-VectorSubtype : goal.returns-in_ok-bounds-in-VectorSubtype
returns-in_ok-bounds-in-VectorSubtype c =
    let here = site_view c.args.site.now in
    let i = c.in-VectorSubtype in
    ap (λ x. stepwise declared here (declaration_view x)) i.is
    ∙ vector_entered here c.range.result i.at (range_view i.range) (bounds_view c.in_ok-bounds-in-VectorSubtype.bounds) c.in_ok-bounds-in-VectorSubtype.ensures c.range.ensures

pub returns-in_err-bounds-in-VectorSubtype : goal.returns-in_err-bounds-in-VectorSubtype
returns-in_err-bounds-in-VectorSubtype c =
    let here = site_view c.args.site.now in
    let i = c.in-VectorSubtype in
    passed_on _ _ c.in_err-bounds-in-VectorSubtype.field-0.0 _ c.from_residual.result c.from_residual.ensures.1 (λ e p. p)
    (λ _. ap (λ x. stepwise declared here (declaration_view x)) i.is ∙ vector_refused here i.at (range_view i.range) c.in_err-bounds-in-VectorSubtype.ensures)

pub returns-in-Signals : goal.returns-in-Signals
returns-in-Signals c =
    let here = site_view c.args.site.now in
    let seen = λ (x : Declaration). stepwise declared here (declaration_view x) in
    elim c.in-Signals.is [
      | inl x ↦ ap seen x.1 ∙ signals_entered here (object_view x.0)
      | inr x ↦ ap seen x.1 ∙ variables_entered here (object_view x.0)
    ]
