use Rattle.std.proofs.Common.{option_map}
use Rattle.vhdl_tree.specs.View.{attribute_view}
use Rattle.vhdl_names_rules.specs.views.Ranges.{declared_range_view}
use Rattle.vhdl_names_trees.specs.views.Expressions.{typed_view, typed_suffix_view}
use Rattle.vhdl_names_sight.specs.Views.{meaning_view}
use Rattle.vhdl_names_rules.proofs.Along.{gives_along}
use Rattle.vhdl_names_rules.proofs.Memory.{memory_gives, memory_told}
use Rattle.vhdl_names_rules.proofs.Passing.{passed_on, told_by}
use Rattle.vhdl_names_expressions.proofs.Namings.{none_valued, valued_is, attribute_first, name_second, attribute_last}
use Rattle.vhdl_names_expressions.proofs.name.valued.Goals as goal

pub returns-in_err-of_no_value-clause-given : goal.returns-in_err-of_no_value-clause-given
returns-in_err-of_no_value-clause-given c =
    passed_on typed_view _ c.in_err-of_no_value.field-0.0 _ c.from_residual.result c.from_residual.ensures.1 (λ e p. p)
    (λ n. none_valued c.args.at (option_map attribute_view c.args.attribute.now) (meaning_view c.args.entry.now.meaning) (option_map declared_range_view c.args.entry.now.range) (typed_suffix_view c.args.suffix) (c.in_err-of_no_value.ensures.none c.args.at))

pub returns-in_err-of_no_value-clause-told : goal.returns-in_err-of_no_value-clause-told
returns-in_err-of_no_value-clause-told c =
    told_by _ c.in_err-of_no_value.field-0.0 _ c.from_residual.result c.from_residual.ensures.1 (λ e p. p)
    (attribute_first c.args.at (option_map attribute_view c.args.attribute.now) (meaning_view c.args.entry.now.meaning) (option_map declared_range_view c.args.entry.now.range) (typed_suffix_view c.args.suffix) c.in_err-of_no_value.field-0.0 c.in_err-of_no_value.ensures.told)

pub returns-in_err-value-clause-given : goal.returns-in_err-value-clause-given
returns-in_err-value-clause-given c =
    passed_on typed_view _ c.in_err-value.field-0.0 _ c.from_residual-in_err-value.result c.from_residual-in_err-value.ensures.1 (λ e p. p)
    (λ n. none_valued c.args.at (option_map attribute_view c.args.attribute.now) (meaning_view c.args.entry.now.meaning) (option_map declared_range_view c.args.entry.now.range) (typed_suffix_view c.args.suffix) (c.in_err-value.ensures.given n))

pub returns-in_err-value-clause-told : goal.returns-in_err-value-clause-told
returns-in_err-value-clause-told c =
    told_by _ c.in_err-value.field-0.0 _ c.from_residual-in_err-value.result c.from_residual-in_err-value.ensures.1 (λ e p. p)
    (name_second c.args.at (option_map attribute_view c.args.attribute.now) (meaning_view c.args.entry.now.meaning) (option_map declared_range_view c.args.entry.now.range) (typed_suffix_view c.args.suffix) c.in_err-value.field-0.0 c.in_ok-of_no_value.ensures.kept c.in_err-value.ensures.told)

pub returns-in_err-sized-clause-given : goal.returns-in_err-sized-clause-given
returns-in_err-sized-clause-given c = memory_gives _ _ _ c.from_residual-in_err-sized.result c.from_residual-in_err-sized.ensures.1 (λ e p. p)

pub returns-in_err-sized-clause-told : goal.returns-in_err-sized-clause-told
returns-in_err-sized-clause-told c = memory_told _ _ c.from_residual-in_err-sized.result c.from_residual-in_err-sized.ensures.1 (λ e p. p)

pub returns-clause-given : goal.returns-clause-given
returns-clause-given c =
    gives_along typed_view _ _ _ (valued_is c.args.at (option_map attribute_view c.args.attribute.now) (meaning_view c.args.entry.now.meaning) (option_map declared_range_view c.args.entry.now.range) (typed_suffix_view c.args.suffix) (typed_view c.in_ok-value.value) (typed_view c.in_ok-sized.sized) c.in_ok-value.ensures.given c.in_ok-sized.ensures)
    c.attributed.ensures.given

pub returns-clause-told : goal.returns-clause-told
returns-clause-told c =
    attribute_last c.args.at (option_map attribute_view c.args.attribute.now) (meaning_view c.args.entry.now.meaning) (option_map declared_range_view c.args.entry.now.range) (typed_suffix_view c.args.suffix) (typed_view c.in_ok-value.value) (typed_view c.in_ok-sized.sized) _ c.in_ok-of_no_value.ensures.kept c.in_ok-value.ensures.given c.in_ok-sized.ensures
    c.attributed.ensures.told
