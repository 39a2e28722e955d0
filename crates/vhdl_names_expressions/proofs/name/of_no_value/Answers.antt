use Rattle.std.proofs.Common.{◌≡◌, ℕ, true, false, None, option_map, sym, ap, ◌∙◌}
use Rattle.vhdl_tree.specs.View.{attribute_view}
use Rattle.vhdl_names_rules.specs.Names.{denoted}
use Rattle.vhdl_names_trees.specs.views.Expressions.{typed_suffix_view}
use Rattle.vhdl_names_sight.specs.Views.{meaning_view}
use Rattle.vhdl_names_expressions.proofs.Breaking.{told_as}
use Rattle.vhdl_names_expressions.proofs.Namings.{no_value_alone, alone_is, kept_along, on_err}
use Rattle.vhdl_names_expressions.proofs.name.of_no_value.Goals as goal

pub returns-then-is_no_value-clause-kept : goal.returns-then-is_no_value-clause-kept
returns-then-is_no_value-clause-kept c =
    kept_along _ _ _ (alone_is (meaning_view c.args.meaning.now) (typed_suffix_view c.args.suffix.now) (option_map attribute_view c.args.attribute.now) true (ap typed_suffix_view c.in-Plain.is) (sym c.is_no_value.ensures ∙ c.if-is_no_value.true)) c.offered.ensures.kept

pub returns-then-is_no_value-clause-none : goal.returns-then-is_no_value-clause-none
returns-then-is_no_value-clause-none c =
    let none : (at : ℕ) → denoted at (meaning_view c.args.meaning.now) (typed_suffix_view c.args.suffix.now) ≡ None =
    λ at. no_value_alone at (meaning_view c.args.meaning.now) (typed_suffix_view c.args.suffix.now) (ap typed_suffix_view c.in-Plain.is) (sym c.is_no_value.ensures ∙ c.if-is_no_value.true) in
    on_err _ _ none

pub returns-then-is_no_value-clause-told : goal.returns-then-is_no_value-clause-told
returns-then-is_no_value-clause-told c =
    told_as _ _ _ (sym (alone_is (meaning_view c.args.meaning.now) (typed_suffix_view c.args.suffix.now) (option_map attribute_view c.args.attribute.now) true (ap typed_suffix_view c.in-Plain.is) (sym c.is_no_value.ensures ∙ c.if-is_no_value.true))) c.offered.ensures.told

pub returns-else-is_no_value-clause-kept : goal.returns-else-is_no_value-clause-kept
returns-else-is_no_value-clause-kept c =
    alone_is (meaning_view c.args.meaning.now) (typed_suffix_view c.args.suffix.now) (option_map attribute_view c.args.attribute.now) false (ap typed_suffix_view c.in-Plain.is) (sym c.is_no_value.ensures ∙ c.if-is_no_value.false)
