use Rattle.std.proofs.Common.{None, Some, option_map, sym, ap, ◌∙◌}
use Rattle.vhdl_tree.specs.View.{attribute_view}
use Rattle.vhdl_names_rules.specs.Visibility.{Sight}
use Rattle.vhdl_names_trees.specs.views.Integers.{range_view}
use Rattle.vhdl_names_rules.specs.views.Ranges.{declared_range_view}
use Rattle.vhdl_names_trees.specs.views.Expressions.{typed_view, typed_suffix_view}
use Rattle.vhdl_names_sight.specs.Views.{meaning_view, entry_of}
use Rattle.vhdl_names_rules.specs.Rules.{wider}
use Rattle.vhdl_names_rules.specs.Types.{interval}
use Rattle.vhdl_names_rules.specs.Ranges.{named_range}
use Rattle.vhdl_names_rules.specs.Expressions.{valued, named}
use Rattle.vhdl_names_rules.specs.problems.Expressions.{is_of_range, with_suffix, by_declaration}
use Rattle.vhdl_names_rules.proofs.Along.{gives_along}
use Rattle.vhdl_names_expressions.proofs.Breaking.{told_as}
use Rattle.vhdl_names_expressions.proofs.Namings.{by_range, by_range_breaks, by_value, by_value_breaks, alone_ranged, alone_valued, alone_breaks}
use Rattle.vhdl_names_expressions.proofs.name.named_as.Goals as goal

pub returns-then-is_of_range-clause-given : goal.returns-then-is_of_range-clause-given
returns-then-is_of_range-clause-given c =
    λ n. gives_along typed_view _ _ _ (ap (λ o. named c.args.sight.now.language c.args.at o (entry_of n c.args.entry.now) (typed_suffix_view c.args.suffix)) (ap (option_map attribute_view) c.in-Some.is) ∙ by_range c.args.sight.now.language c.args.at (entry_of n c.args.entry.now) (typed_suffix_view c.args.suffix) (attribute_view c.in-Some.own)
    (ap (is_of_range c.args.sight.now.language) (sym (ap (option_map attribute_view) c.in-Some.is)) ∙ ap (λ l. is_of_range l (option_map attribute_view c.args.attribute.now)) (sym (ap (λ (x : Sight). x.language) c.sight.view_is)) ∙ sym c.is_of_range.ensures ∙ c.if-is_of_range.true))
    (c.range_attribute.ensures.given n)

pub returns-then-is_of_range-clause-told : goal.returns-then-is_of_range-clause-told
returns-then-is_of_range-clause-told c =
    λ n. told_as _ _ _ (sym (ap (λ o. by_declaration c.args.sight.now.language c.args.at o (entry_of n c.args.entry.now) (typed_suffix_view c.args.suffix)) (ap (option_map attribute_view) c.in-Some.is) ∙ by_range_breaks c.args.sight.now.language c.args.at (entry_of n c.args.entry.now) (typed_suffix_view c.args.suffix) (attribute_view c.in-Some.own)
    (ap (is_of_range c.args.sight.now.language) (sym (ap (option_map attribute_view) c.in-Some.is)) ∙ ap (λ l. is_of_range l (option_map attribute_view c.args.attribute.now)) (sym (ap (λ (x : Sight). x.language) c.sight.view_is)) ∙ sym c.is_of_range.ensures ∙ c.if-is_of_range.true)))
    (c.range_attribute.ensures.told n)

pub returns-else-is_of_range-clause-given : goal.returns-else-is_of_range-clause-given
returns-else-is_of_range-clause-given c =
    λ n. gives_along typed_view _ _ _ (ap (λ o. named c.args.sight.now.language c.args.at o (entry_of n c.args.entry.now) (typed_suffix_view c.args.suffix)) (ap (option_map attribute_view) c.in-Some.is) ∙ by_value c.args.sight.now.language c.args.at (entry_of n c.args.entry.now) (typed_suffix_view c.args.suffix) (attribute_view c.in-Some.own)
    (ap (is_of_range c.args.sight.now.language) (sym (ap (option_map attribute_view) c.in-Some.is)) ∙ ap (λ l. is_of_range l (option_map attribute_view c.args.attribute.now)) (sym (ap (λ (x : Sight). x.language) c.sight.view_is)) ∙ sym c.is_of_range.ensures ∙ c.if-is_of_range.false)
    ∙ sym (ap (λ o. valued c.args.at o (meaning_view c.args.entry.now.meaning) (option_map declared_range_view c.args.entry.now.range) (typed_suffix_view c.args.suffix)) (ap (option_map attribute_view) c.in-Some.is)))
    c.valued.ensures.given

pub returns-else-is_of_range-clause-told : goal.returns-else-is_of_range-clause-told
returns-else-is_of_range-clause-told c =
    λ n. told_as _ _ _ (sym (ap (λ o. by_declaration c.args.sight.now.language c.args.at o (entry_of n c.args.entry.now) (typed_suffix_view c.args.suffix)) (ap (option_map attribute_view) c.in-Some.is) ∙ by_value_breaks c.args.sight.now.language c.args.at (entry_of n c.args.entry.now) (typed_suffix_view c.args.suffix) (attribute_view c.in-Some.own)
    (ap (is_of_range c.args.sight.now.language) (sym (ap (option_map attribute_view) c.in-Some.is)) ∙ ap (λ l. is_of_range l (option_map attribute_view c.args.attribute.now)) (sym (ap (λ (x : Sight). x.language) c.sight.view_is)) ∙ sym c.is_of_range.ensures ∙ c.if-is_of_range.false)
    ∙ sym (ap (λ o. with_suffix c.args.at o (meaning_view c.args.entry.now.meaning) (option_map declared_range_view c.args.entry.now.range) (typed_suffix_view c.args.suffix)) (ap (option_map attribute_view) c.in-Some.is))))
    c.valued.ensures.told

pub returns-in_ok-new-in-Some-wider_range-clause-given : goal.returns-in_ok-new-in-Some-wider_range-clause-given
returns-in_ok-new-in-Some-wider_range-clause-given c =
    λ n. ap (λ o. named c.args.sight.now.language c.args.at o (entry_of n c.args.entry.now) (typed_suffix_view c.args.suffix)) (ap (option_map attribute_view) c.in-None.is) ∙ alone_ranged c.args.sight.now.language c.args.at (entry_of n c.args.entry.now) (typed_suffix_view c.args.suffix) (range_view c.in-Some-wider_range.range)
    (ap (λ l. wider l (named_range None (entry_of n c.args.entry.now) (typed_suffix_view c.args.suffix))) (sym (ap (λ (x : Sight). x.language) c.sight.view_is)) ∙ sym (c.in-Some-wider_range.ensures n))
    ∙ ap (λ r. Some (interval (range_view r))) (sym c.in_ok-new-in-Some-wider_range.ensures.ok)

pub returns-in-None-wider_range-clause-given : goal.returns-in-None-wider_range-clause-given
returns-in-None-wider_range-clause-given c =
    λ n. gives_along typed_view _ _ _ (ap (λ o. named c.args.sight.now.language c.args.at o (entry_of n c.args.entry.now) (typed_suffix_view c.args.suffix)) (ap (option_map attribute_view) c.in-None.is) ∙ alone_valued c.args.sight.now.language c.args.at (entry_of n c.args.entry.now) (typed_suffix_view c.args.suffix)
    (ap (λ l. wider l (named_range None (entry_of n c.args.entry.now) (typed_suffix_view c.args.suffix))) (sym (ap (λ (x : Sight). x.language) c.sight.view_is)) ∙ sym (c.in-None-wider_range.ensures n))
    ∙ sym (ap (λ o. valued c.args.at o (meaning_view c.args.entry.now.meaning) (option_map declared_range_view c.args.entry.now.range) (typed_suffix_view c.args.suffix)) (ap (option_map attribute_view) c.in-None.is)))
    c.valued-in-None-wider_range.ensures.given

pub returns-in-None-wider_range-clause-told : goal.returns-in-None-wider_range-clause-told
returns-in-None-wider_range-clause-told c =
    λ n. told_as _ _ _ (sym (ap (λ o. by_declaration c.args.sight.now.language c.args.at o (entry_of n c.args.entry.now) (typed_suffix_view c.args.suffix)) (ap (option_map attribute_view) c.in-None.is) ∙ alone_breaks c.args.sight.now.language c.args.at (entry_of n c.args.entry.now) (typed_suffix_view c.args.suffix)
    (ap (λ l. wider l (named_range None (entry_of n c.args.entry.now) (typed_suffix_view c.args.suffix))) (sym (ap (λ (x : Sight). x.language) c.sight.view_is)) ∙ sym (c.in-None-wider_range.ensures n))
    ∙ sym (ap (λ o. with_suffix c.args.at o (meaning_view c.args.entry.now.meaning) (option_map declared_range_view c.args.entry.now.range) (typed_suffix_view c.args.suffix)) (ap (option_map attribute_view) c.in-None.is))))
    c.valued-in-None-wider_range.ensures.told
