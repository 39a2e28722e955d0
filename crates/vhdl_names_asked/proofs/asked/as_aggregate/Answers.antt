use Rattle.std.proofs.Common.{Some, option_map, sym, ap, ◌∙◌}
use Rattle.vhdl_names_rules.specs.declared.fault.NameFault.TheVariants.{At}
use Rattle.vhdl_names_rules.specs.declared.fault.NameProblem.TheVariants.{LeftOut}
use Rattle.vhdl_names_rules.specs.units.Expressions as u
use Rattle.vhdl_names_rules.specs.units.Statements.{single}
use Rattle.vhdl_names_rules.specs.Rules.{◌>>=◌}
use Rattle.vhdl_names_trees.specs.views.Integers.{target_range_view, option_range_view}
use Rattle.vhdl_names_trees.specs.views.Vectors.{value_view}
use Rattle.vhdl_names_trees.specs.views.Expressions.{typed_elements_view}
use Rattle.vhdl_names_units.specs.views.Answers.{given_view}
use Rattle.vhdl_names_rules.proofs.Memory.{memory_gives, memory_told}
use Rattle.vhdl_names_rules.proofs.Passing.{passed_on, told_by}
use Rattle.vhdl_names_asked.specs.Givings.{lacks_range}
use Rattle.vhdl_names_expressions.proofs.Breaking.{told_fault}
use Rattle.vhdl_names_asked.proofs.Aggregating.{not_listed, not_listed_breaks, listed_by, listed_told}
use Rattle.vhdl_names_asked.proofs.asked.as_aggregate.Goals as goal

pub returns-then-lacks_range-clause-given : goal.returns-then-lacks_range-clause-given
returns-then-lacks_range-clause-given c =
    let is = c.lacks_range.ensures ∙ ap (λ es. lacks_range (option_map target_range_view c.args.range) (typed_elements_view es)) c.deref.ensures.value in
    λ n. not_listed c.args.kind c.args.at (typed_elements_view c.args.elements.items) (option_map target_range_view c.args.range) _ is c.if-lacks_range.true

pub returns-then-lacks_range-clause-told : goal.returns-then-lacks_range-clause-told
returns-then-lacks_range-clause-told c =
    let is = c.lacks_range.ensures ∙ ap (λ es. lacks_range (option_map target_range_view c.args.range) (typed_elements_view es)) c.deref.ensures.value in
    told_fault _ (At LeftOut c.args.at) _ (c.without.ensures ∙ c.at.ensures)
    (not_listed_breaks c.args.kind c.args.at (typed_elements_view c.args.elements.items) c.args.range _ is c.if-lacks_range.true)

pub returns-in_err-range-clause-given : goal.returns-in_err-range-clause-given
returns-in_err-range-clause-given c = memory_gives _ _ _ c.from_residual.result c.from_residual.ensures.1 (λ e p. p)

pub returns-in_err-range-clause-told : goal.returns-in_err-range-clause-told
returns-in_err-range-clause-told c = memory_told _ _ c.from_residual.result c.from_residual.ensures.1 (λ e p. p)

pub returns-in_err-vector-clause-given : goal.returns-in_err-vector-clause-given
returns-in_err-vector-clause-given c =
    let is = c.lacks_range.ensures ∙ ap (λ es. lacks_range (option_map target_range_view c.args.range) (typed_elements_view es)) c.deref.ensures.value in
    passed_on given_view _ c.in_err-vector.field-0.0 _ c.from_residual-in_err-vector.result c.from_residual-in_err-vector.ensures.1 (λ e p. p)
    (λ w. listed_by c.args.kind c.args.at (typed_elements_view c.args.elements.items) (option_map target_range_view c.args.range) (option_range_view c.in_ok-range.range) _ is c.if-lacks_range.false c.in_ok-range.ensures
    ∙ ap (λ o. o >>= λ x. Some (single (u.elements x))) (c.in_err-vector.ensures.given w))

pub returns-in_err-vector-clause-told : goal.returns-in_err-vector-clause-told
returns-in_err-vector-clause-told c =
    let is = c.lacks_range.ensures ∙ ap (λ es. lacks_range (option_map target_range_view c.args.range) (typed_elements_view es)) c.deref.ensures.value in
    told_by _ c.in_err-vector.field-0.0 _ c.from_residual-in_err-vector.result c.from_residual-in_err-vector.ensures.1 (λ e p. p)
    (listed_told c.args.kind c.args.at (typed_elements_view c.args.elements.items) c.args.range c.in_ok-range.range _ c.in_err-vector.field-0.0 is c.if-lacks_range.false c.in_ok-range.ensures c.in_err-vector.ensures.told)

pub returns-clause-given : goal.returns-clause-given
returns-clause-given c =
    let is = c.lacks_range.ensures ∙ ap (λ es. lacks_range (option_map target_range_view c.args.range) (typed_elements_view es)) c.deref.ensures.value in
    listed_by c.args.kind c.args.at (typed_elements_view c.args.elements.items) (option_map target_range_view c.args.range) (option_range_view c.in_ok-range.range) _ is c.if-lacks_range.false c.in_ok-range.ensures
    ∙ ap (λ o. o >>= λ x. Some (single (u.elements x))) c.in_ok-vector.ensures.given
    ∙ ap (λ v. Some (single (value_view v))) (sym c.in_ok-new.ensures.ok)
