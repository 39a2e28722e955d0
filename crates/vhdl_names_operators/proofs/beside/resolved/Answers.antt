use Rattle.std.proofs.Common.{sym, ap, ◌∙◌}
use Rattle.std.specs.Prelude.{option_map}
use Rattle.vhdl_names_rules.specs.Operators.{elements}
use Rattle.vhdl_names_trees.specs.views.Expressions.{typed_view}
use Rattle.vhdl_names_rules.proofs.Passing.{passed_on, told_by}
use Rattle.vhdl_names_rules.proofs.Telling.{told_same}
use Rattle.vhdl_names_trees.proofs.rows.Composites.{view_composite}
use Rattle.vhdl_names_operators.proofs.Resolving.{plain, plain_resolved, placed_resolved, placed_breaks, no_place, no_place_breaks}
use Rattle.vhdl_names_operators.proofs.beside.resolved.Goals as goal

pub returns-in_default : goal.returns-in_default
returns-in_default c =
    let is = plain c.args.operand c.in_default.not-Composite in
    record { given = plain_resolved c.args.operator c.args.other (typed_view c.args.operand) is; plain = is; told = tt }

pub returns-in_err-vector-in-Some-clause-given : goal.returns-in_err-vector-in-Some-clause-given
returns-in_err-vector-in-Some-clause-given c =
    let f = c.in_err-vector-in-Some.field-0.0 in
    let is = ap typed_view c.in-Composite.is ∙ view_composite c.in-Composite.at c.in-Composite.elements in
    passed_on typed_view _ f _ c.from_residual.result c.from_residual.ensures.1 (λ e p. p)
    (λ n. placed_resolved c.args.operator c.args.other c.in-Some.kind _ c.in-Composite.at _ is (sym c.vector_kind.ensures ∙ c.in-Some.is)
    ∙ ap (option_map (elements c.in-Some.kind)) (c.in_err-vector-in-Some.ensures.given n))

pub returns-in_err-vector-in-Some-clause-told : goal.returns-in_err-vector-in-Some-clause-told
returns-in_err-vector-in-Some-clause-told c =
    let f = c.in_err-vector-in-Some.field-0.0 in
    let is = ap typed_view c.in-Composite.is ∙ view_composite c.in-Composite.at c.in-Composite.elements in
    told_by _ f _ c.from_residual.result c.from_residual.ensures.1 (λ e p. p)
    (told_same _ _ f (sym (placed_breaks c.args.operator c.args.other c.in-Some.kind _ c.in-Composite.at _ is (sym c.vector_kind.ensures ∙ c.in-Some.is))) c.in_err-vector-in-Some.ensures.told)

pub returns-in_ok-vector-in-Some-clause-given : goal.returns-in_ok-vector-in-Some-clause-given
returns-in_ok-vector-in-Some-clause-given c =
    let is = ap typed_view c.in-Composite.is ∙ view_composite c.in-Composite.at c.in-Composite.elements in
    placed_resolved c.args.operator c.args.other c.in-Some.kind _ c.in-Composite.at _ is (sym c.vector_kind.ensures ∙ c.in-Some.is)
    ∙ ap (option_map (elements c.in-Some.kind)) c.in_ok-vector-in-Some.ensures.given

pub returns-in-None-clause-given : goal.returns-in-None-clause-given
returns-in-None-clause-given c =
    let is = ap typed_view c.in-Composite.is ∙ view_composite c.in-Composite.at c.in-Composite.elements in
    λ n. no_place c.args.operator c.args.other _ c.in-Composite.at _ is (sym c.vector_kind.ensures ∙ c.in-None.is)

pub returns-in-None-clause-told : goal.returns-in-None-clause-told
returns-in-None-clause-told c =
    let is = ap typed_view c.in-Composite.is ∙ view_composite c.in-Composite.at c.in-Composite.elements in
    rw (c.without.ensures, c.at.ensures) (no_place_breaks c.args.operator c.args.other _ c.in-Composite.at _ is (sym c.vector_kind.ensures ∙ c.in-None.is))
