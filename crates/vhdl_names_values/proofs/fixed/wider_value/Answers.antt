use Rattle.std.proofs.Common.{option_map, sym, ap, ◌∙◌}
use Rattle.vhdl_tree.specs.Tree as t
use Rattle.vhdl_tree.specs.View.{view, value_view}
use Rattle.vhdl_names_rules.specs.Visibility.{Sight}
use Rattle.vhdl_names_trees.specs.views.Integers.{target_range_view}
use Rattle.vhdl_names_units.specs.views.Answers.{fixed_view}
use Rattle.vhdl_names_rules.specs.problems.Subtypes as broken
use Rattle.vhdl_names_rules.proofs.Along.{gives_along}
use Rattle.vhdl_names_rules.proofs.Telling.{told_same}
use Rattle.vhdl_names_expressions.proofs.Breaking.{told_as}
use Rattle.vhdl_names_values.specs.Fixing.{filled_with, known_value, known_value_breaks, wider_value}
use Rattle.vhdl_names_values.proofs.Further.{plain_given, further_given, none_given, further_breaks, plain_told, others_plain, others_is}
use Rattle.vhdl_names_values.proofs.fixed.wider_value.Goals as goal

pub returns-in-Expr-clause-given : goal.returns-in-Expr-clause-given
returns-in-Expr-clause-given c = gives_along fixed_view _ _ _ (ap (λ y. wider_value c.args.sight.now c.args.object_type (option_map target_range_view c.args.range) (value_view y)) c.in-Expr.is) c.wider_expression.ensures.given

pub returns-in-Expr-clause-told : goal.returns-in-Expr-clause-told
returns-in-Expr-clause-told c = told_as _ _ _ (sym (ap (λ y. broken.fixed_value_in c.args.sight.now.language c.args.sight.now c.args.object_type (option_map target_range_view c.args.range) (value_view y)) c.in-Expr.is)) c.wider_expression.ensures.told

pub returns-in-Ok-clause-given : goal.returns-in-Ok-clause-given
returns-in-Ok-clause-given c =
    ap (λ y. wider_value c.args.sight.now c.args.object_type (option_map target_range_view c.args.range) (value_view y)) c.in-Others.is
    ∙ plain_given c.args.sight.now c.args.object_type (option_map target_range_view c.args.range) (t.others c.in-Others.at (view c.in-Others.element)) (filled_with c.args.object_type c.character_of.result) (others_is c.args.sight.now c.args.object_type c.in-Others.at c.character_of.result (view c.in-Others.element) c.character_of.ensures)
    (fixed_view c.in-Ok.plain) c.in-Ok.ensures.given

pub returns-then-looks_further-clause-given : goal.returns-then-looks_further-clause-given
returns-then-looks_further-clause-given c =
    gives_along fixed_view _ _ _ (ap (λ y. wider_value c.args.sight.now c.args.object_type (option_map target_range_view c.args.range) (value_view y)) c.in-Others.is
    ∙ further_given c.args.sight.now c.args.object_type (option_map target_range_view c.args.range) (t.others c.in-Others.at (view c.in-Others.element)) (filled_with c.args.object_type c.character_of.result) (others_is c.args.sight.now c.args.object_type c.in-Others.at c.character_of.result (view c.in-Others.element) c.character_of.ensures)
    _ c.in-Err.fault (ap (λ (x : Sight). x.language) c.sight.view_is) (sym c.looks_further.ensures ∙ c.if-looks_further.true) c.in-Err.ensures.given
    ∙ sym (ap (λ y. known_value c.args.sight.now c.args.object_type (option_map target_range_view c.args.range) (value_view y)) c.in-Others.is)) c.known_filling.ensures.given

pub returns-then-looks_further-clause-told : goal.returns-then-looks_further-clause-told
returns-then-looks_further-clause-told c =
    told_as _ _ _ (sym (ap (λ y. broken.fixed_value_in c.args.sight.now.language c.args.sight.now c.args.object_type (option_map target_range_view c.args.range) (value_view y)) c.in-Others.is
    ∙ further_breaks c.args.sight.now c.args.object_type (option_map target_range_view c.args.range) (t.others c.in-Others.at (view c.in-Others.element))
    _ c.in-Err.fault (ap (λ (x : Sight). x.language) c.sight.view_is) (sym c.looks_further.ensures ∙ c.if-looks_further.true) (λ n. (others_is c.args.sight.now c.args.object_type c.in-Others.at c.character_of.result (view c.in-Others.element) c.character_of.ensures) ∙ c.in-Err.ensures.given n)
    ∙ ap (λ p. known_value_breaks c.args.sight.now c.args.object_type (option_map target_range_view c.args.range) p (t.others c.in-Others.at (view c.in-Others.element))) (sym c.start-place.ensures)
    ∙ sym (ap (λ y. known_value_breaks c.args.sight.now c.args.object_type (option_map target_range_view c.args.range) c.start-place.result (value_view y)) c.in-Others.is))) c.known_filling.ensures.told

pub returns-else-looks_further-clause-given : goal.returns-else-looks_further-clause-given
returns-else-looks_further-clause-given c =
    λ n. ap (λ y. wider_value c.args.sight.now c.args.object_type (option_map target_range_view c.args.range) (value_view y)) c.in-Others.is
    ∙ none_given c.args.sight.now c.args.object_type (option_map target_range_view c.args.range) (t.others c.in-Others.at (view c.in-Others.element)) (filled_with c.args.object_type c.character_of.result) (others_is c.args.sight.now c.args.object_type c.in-Others.at c.character_of.result (view c.in-Others.element) c.character_of.ensures)
    _ c.in-Err.fault (ap (λ (x : Sight). x.language) c.sight.view_is) (sym c.looks_further.ensures ∙ c.if-looks_further.false) c.in-Err.ensures.given n

pub returns-else-looks_further-clause-told : goal.returns-else-looks_further-clause-told
returns-else-looks_further-clause-told c =
    told_same _ _ c.in-Err.fault (sym (ap (λ y. broken.fixed_value_in c.args.sight.now.language c.args.sight.now c.args.object_type (option_map target_range_view c.args.range) (value_view y)) c.in-Others.is))
    (plain_told c.args.sight.now c.args.object_type (option_map target_range_view c.args.range) (t.others c.in-Others.at (view c.in-Others.element))
    _ c.in-Err.fault (ap (λ (x : Sight). x.language) c.sight.view_is) (sym c.looks_further.ensures ∙ c.if-looks_further.false)
    (told_same _ _ c.in-Err.fault (others_plain c.args.sight.now c.args.object_type c.in-Others.at c.start-place.result c.character_of.result (view c.in-Others.element) c.character_of.ensures c.start-place.ensures) c.in-Err.ensures.told))
