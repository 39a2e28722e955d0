use Rattle.std.proofs.Common.{Some, refl, sym, ap, ◌∙◌}
use Rattle.vhdl_tree.specs.View.{constraint_view, discrete_range_view}
use Rattle.vhdl_names_rules.specs.declared.fault.NameFault.TheVariants.{At}
use Rattle.vhdl_names_rules.specs.declared.fault.NameProblem.TheVariants.{LeftOut}
use Rattle.vhdl_names_rules.specs.Rules.{◌>>=◌, ◌>>◌, met}
use Rattle.vhdl_names_rules.specs.Expressions.{static_range}
use Rattle.vhdl_names_rules.specs.Subtypes.{is_range, value_range}
use Rattle.vhdl_names_trees.specs.views.Integers.{range_view}
use Rattle.vhdl_names_rules.specs.problems.Broken.{nothing, refused, unless}
use Rattle.vhdl_names_rules.specs.problems.Places.{range_start}
use Rattle.vhdl_names_rules.specs.problems.Expressions as broken
use Rattle.vhdl_names_rules.proofs.Telling.{told_same, told_left, told_right}
use Rattle.vhdl_names_rules.proofs.Passing.{passed_on, told_by}
use Rattle.vhdl_names_expressions.proofs.Breaking.{told_fault}
use Rattle.vhdl_names_values.specs.Constraining.{constraint_breaks}
use Rattle.vhdl_names_values.proofs.integers.value_range.Goals as goal

pub returns-in-Index-clause-given : goal.returns-in-Index-clause-given
returns-in-Index-clause-given c = λ w. ap (λ x. value_range c.args.sight.now (constraint_view x)) c.in-Index.is

pub returns-in-Index-clause-told : goal.returns-in-Index-clause-told
returns-in-Index-clause-told c =
    told_same _ _ c.at.result (sym (ap (λ x. constraint_breaks c.args.sight.now c.args.mark_at (constraint_view x)) c.in-Index.is))
    (told_left (refused LeftOut c.args.mark_at) _ c.at.result (told_fault (refused LeftOut c.args.mark_at) (At LeftOut c.args.mark_at) c.at.result c.at.ensures refl))

pub returns-then-not-is_range-clause-given : goal.returns-then-not-is_range-clause-given
returns-then-not-is_range-clause-given c = λ w. ap (λ x. value_range c.args.sight.now (constraint_view x)) c.in-Range.is ∙ ap (λ b. met b >> (static_range c.args.sight.now (discrete_range_view c.in-Range.range) >>= λ x. Some (range_start (discrete_range_view c.in-Range.range), x))) (sym c.is_range.ensures ∙ c.if-not-is_range.true)

pub returns-then-not-is_range-clause-told : goal.returns-then-not-is_range-clause-told
returns-then-not-is_range-clause-told c =
    let f = c.at-then-not-is_range.result in
    told_same _ _ f (sym (ap (λ x. constraint_breaks c.args.sight.now c.args.mark_at (constraint_view x)) c.in-Range.is))
    (told_right nothing _ f refl
    (told_left (unless LeftOut (range_start (discrete_range_view c.in-Range.range)) (is_range (discrete_range_view c.in-Range.range))) (broken.static_range c.args.sight.now (discrete_range_view c.in-Range.range)) f
    (told_fault (unless LeftOut (range_start (discrete_range_view c.in-Range.range)) (is_range (discrete_range_view c.in-Range.range))) (At LeftOut c.range_start-at.result) f c.at-then-not-is_range.ensures
    (ap (unless LeftOut (range_start (discrete_range_view c.in-Range.range))) (sym c.is_range.ensures ∙ c.if-not-is_range.true) ∙ ap (refused LeftOut) (sym c.range_start-at.ensures)))))

pub returns-in_err-bounds-in-Range-clause-given : goal.returns-in_err-bounds-in-Range-clause-given
returns-in_err-bounds-in-Range-clause-given c =
    passed_on _ _ c.in_err-bounds-in-Range.field-0.0 _ c.from_residual.result c.from_residual.ensures.1 (λ e p. p)
    (λ w. ap (λ x. value_range c.args.sight.now (constraint_view x)) c.in-Range.is ∙ ap (λ b. met b >> (static_range c.args.sight.now (discrete_range_view c.in-Range.range) >>= λ x. Some (range_start (discrete_range_view c.in-Range.range), x))) (sym c.is_range.ensures ∙ c.if-not-is_range.false)
    ∙ ap (λ o. o >>= λ x. Some (range_start (discrete_range_view c.in-Range.range), x)) (c.in_err-bounds-in-Range.ensures.given w))

pub returns-in_err-bounds-in-Range-clause-told : goal.returns-in_err-bounds-in-Range-clause-told
returns-in_err-bounds-in-Range-clause-told c =
    told_by _ c.in_err-bounds-in-Range.field-0.0 _ c.from_residual.result c.from_residual.ensures.1 (λ e p. p)
    (told_same _ _ c.in_err-bounds-in-Range.field-0.0 (sym (ap (λ x. constraint_breaks c.args.sight.now c.args.mark_at (constraint_view x)) c.in-Range.is))
    (told_right nothing _ c.in_err-bounds-in-Range.field-0.0 refl
    (told_right (unless LeftOut (range_start (discrete_range_view c.in-Range.range)) (is_range (discrete_range_view c.in-Range.range))) (broken.static_range c.args.sight.now (discrete_range_view c.in-Range.range)) c.in_err-bounds-in-Range.field-0.0 (ap (unless LeftOut (range_start (discrete_range_view c.in-Range.range))) (sym c.is_range.ensures ∙ c.if-not-is_range.false))
    c.in_err-bounds-in-Range.ensures.told)))

pub returns-in_ok-bounds-in-Range-clause-given : goal.returns-in_ok-bounds-in-Range-clause-given
returns-in_ok-bounds-in-Range-clause-given c =
    ap (λ x. value_range c.args.sight.now (constraint_view x)) c.in-Range.is ∙ ap (λ b. met b >> (static_range c.args.sight.now (discrete_range_view c.in-Range.range) >>= λ x. Some (range_start (discrete_range_view c.in-Range.range), x))) (sym c.is_range.ensures ∙ c.if-not-is_range.false)
    ∙ ap (λ o. o >>= λ x. Some (range_start (discrete_range_view c.in-Range.range), x)) c.in_ok-bounds-in-Range.ensures.given
    ∙ ap (λ p. Some (p, range_view c.in_ok-bounds-in-Range.bounds)) (sym c.range_start-at.ensures)
