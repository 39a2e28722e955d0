use Rattle.std.proofs.Common.{option_map, sym, ap, ◌∙◌}
use Rattle.vhdl_names_rules.specs.Types.{elements}
use Rattle.vhdl_names_trees.specs.views.Integers.{option_range_view}
use Rattle.vhdl_names_rules.specs.views.Ranges.{declared_range_view}
use Rattle.vhdl_names_trees.specs.views.Expressions.{typed_view, typed_elements_view}
use Rattle.vhdl_names_sight.specs.Views.{meaning_view}
use Rattle.vhdl_names_rules.proofs.Along.{gives_along}
use Rattle.vhdl_names_rules.proofs.Memory.{memory_gives, memory_told}
use Rattle.vhdl_names_rules.proofs.Passing.{passed_on, told_by}
use Rattle.vhdl_names_rules.proofs.Telling.{told_same}
use Rattle.vhdl_names_expressions.proofs.Breaking.{told_as}
use Rattle.vhdl_names_expressions.proofs.Qualifying.{operand_given, operand_breaks, aggregate_given, aggregate_breaks}
use Rattle.vhdl_names_expressions.proofs.elements.vector_qualified.Goals as goal

pub returns-in-Ok-clause-given : goal.returns-in-Ok-clause-given
returns-in-Ok-clause-given c =
    λ n. gives_along typed_view _ _ _ (operand_given c.args.mark_at c.args.at c.args.kind (meaning_view c.args.entry.now.meaning) (option_map declared_range_view c.args.entry.now.range) c.requires.kind
    (typed_elements_view c.args.elements.items) c.in-Ok.place (typed_view c.in-Ok.operand) (sym c.in-Ok.ensures)) c.vector_operand.ensures.given

pub returns-in-Ok-clause-told : goal.returns-in-Ok-clause-told
returns-in-Ok-clause-told c =
    λ n. told_as _ _ _ (sym (operand_breaks c.args.mark_at c.args.at c.args.kind (meaning_view c.args.entry.now.meaning) (option_map declared_range_view c.args.entry.now.range) c.requires.kind
    (typed_elements_view c.args.elements.items) c.in-Ok.place (typed_view c.in-Ok.operand) (sym c.in-Ok.ensures))) c.vector_operand.ensures.told

pub returns-in_err-range-in-Err-clause-given : goal.returns-in_err-range-in-Err-clause-given
returns-in_err-range-in-Err-clause-given c = λ n. memory_gives _ _ _ c.from_residual.result c.from_residual.ensures.1 (λ e p. p)

pub returns-in_err-range-in-Err-clause-told : goal.returns-in_err-range-in-Err-clause-told
returns-in_err-range-in-Err-clause-told c = λ n. memory_told _ _ c.from_residual.result c.from_residual.ensures.1 (λ e p. p)

pub returns-in_err-vector-in-Err-clause-given : goal.returns-in_err-vector-in-Err-clause-given
returns-in_err-vector-in-Err-clause-given c =
    let f = c.in_err-vector-in-Err.field-0.0 in
    λ n. passed_on typed_view _ f _ c.from_residual-in_err-vector-in-Err.result c.from_residual-in_err-vector-in-Err.ensures.1 (λ e p. p)
    (λ w. aggregate_given c.args.mark_at c.args.at c.args.kind (meaning_view c.args.entry.now.meaning) (option_map declared_range_view c.args.entry.now.range) c.requires.kind
    (typed_elements_view c.args.elements.items) (typed_elements_view c.in-Err.elements.items) (option_range_view c.in_ok-range-in-Err.range) (sym c.in-Err.ensures) c.in_ok-range-in-Err.ensures
    ∙ ap (option_map (elements c.args.kind)) (c.in_err-vector-in-Err.ensures.given w))

pub returns-in_err-vector-in-Err-clause-told : goal.returns-in_err-vector-in-Err-clause-told
returns-in_err-vector-in-Err-clause-told c =
    let f = c.in_err-vector-in-Err.field-0.0 in
    λ n. told_by _ f _ c.from_residual-in_err-vector-in-Err.result c.from_residual-in_err-vector-in-Err.ensures.1 (λ e p. p)
    (told_same _ _ f (sym (aggregate_breaks c.args.mark_at c.args.at c.args.kind (meaning_view c.args.entry.now.meaning) (option_map declared_range_view c.args.entry.now.range) c.requires.kind
    (typed_elements_view c.args.elements.items) (typed_elements_view c.in-Err.elements.items) c.in_ok-range-in-Err.range (sym c.in-Err.ensures) c.in_ok-range-in-Err.ensures)) c.in_err-vector-in-Err.ensures.told)

pub returns-in_ok-vector-in-Err-clause-given : goal.returns-in_ok-vector-in-Err-clause-given
returns-in_ok-vector-in-Err-clause-given c =
    λ n. aggregate_given c.args.mark_at c.args.at c.args.kind (meaning_view c.args.entry.now.meaning) (option_map declared_range_view c.args.entry.now.range) c.requires.kind
    (typed_elements_view c.args.elements.items) (typed_elements_view c.in-Err.elements.items) (option_range_view c.in_ok-range-in-Err.range) (sym c.in-Err.ensures) c.in_ok-range-in-Err.ensures
    ∙ ap (option_map (elements c.args.kind)) c.in_ok-vector-in-Err.ensures.given
