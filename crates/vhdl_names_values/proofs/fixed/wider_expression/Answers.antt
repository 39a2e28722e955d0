use Rattle.std.proofs.Common.{option_map, refl, sym, ap, ◌∙◌}
use Rattle.vhdl_tree.specs.Tree as t
use Rattle.vhdl_tree.specs.View.{view}
use Rattle.vhdl_names_rules.specs.Visibility.{Sight}
use Rattle.vhdl_names_trees.specs.views.Integers.{target_range_view}
use Rattle.vhdl_names_units.specs.views.Answers.{fixed_view}
use Rattle.vhdl_names_rules.specs.Subtypes.{fixed}
use Rattle.vhdl_names_rules.proofs.Along.{gives_along}
use Rattle.vhdl_names_expressions.proofs.Breaking.{told_as}
use Rattle.vhdl_names_values.proofs.Further.{plain_given, further_given, none_given, further_breaks, plain_told}
use Rattle.vhdl_names_values.proofs.fixed.wider_expression.Goals as goal

pub returns-in-Ok-clause-given : goal.returns-in-Ok-clause-given
returns-in-Ok-clause-given c =
    plain_given c.args.sight.now c.args.object_type (option_map target_range_view c.args.range) (t.single (view c.args.e.now)) (fixed c.args.sight.now c.args.object_type (view c.args.e.now)) refl
    (fixed_view c.in-Ok.plain) c.in-Ok.ensures.given

pub returns-then-looks_further-clause-given : goal.returns-then-looks_further-clause-given
returns-then-looks_further-clause-given c =
    gives_along fixed_view _ _ _ (further_given c.args.sight.now c.args.object_type (option_map target_range_view c.args.range) (t.single (view c.args.e.now)) (fixed c.args.sight.now c.args.object_type (view c.args.e.now)) refl
    _ c.in-Err.fault (ap (λ (x : Sight). x.language) c.sight.view_is) (sym c.looks_further.ensures ∙ c.if-looks_further.true) c.in-Err.ensures.given) c.known_expression.ensures.given

pub returns-then-looks_further-clause-told : goal.returns-then-looks_further-clause-told
returns-then-looks_further-clause-told c =
    told_as _ _ _ (sym (further_breaks c.args.sight.now c.args.object_type (option_map target_range_view c.args.range) (t.single (view c.args.e.now))
    _ c.in-Err.fault (ap (λ (x : Sight). x.language) c.sight.view_is) (sym c.looks_further.ensures ∙ c.if-looks_further.true) c.in-Err.ensures.given)) c.known_expression.ensures.told

pub returns-else-looks_further-clause-given : goal.returns-else-looks_further-clause-given
returns-else-looks_further-clause-given c =
    none_given c.args.sight.now c.args.object_type (option_map target_range_view c.args.range) (t.single (view c.args.e.now)) (fixed c.args.sight.now c.args.object_type (view c.args.e.now)) refl
    _ c.in-Err.fault (ap (λ (x : Sight). x.language) c.sight.view_is) (sym c.looks_further.ensures ∙ c.if-looks_further.false) c.in-Err.ensures.given

pub returns-else-looks_further-clause-told : goal.returns-else-looks_further-clause-told
returns-else-looks_further-clause-told c =
    plain_told c.args.sight.now c.args.object_type (option_map target_range_view c.args.range) (t.single (view c.args.e.now))
    _ c.in-Err.fault (ap (λ (x : Sight). x.language) c.sight.view_is) (sym c.looks_further.ensures ∙ c.if-looks_further.false) c.in-Err.ensures.told
