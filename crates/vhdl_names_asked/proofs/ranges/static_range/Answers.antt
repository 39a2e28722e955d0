use Rattle.std.proofs.Common.{option_map, sym, ap, ◌∙◌}
use Rattle.vhdl_tree.specs.View.{name_view, attribute_view, discrete_range_view}
use Rattle.vhdl_names_rules.specs.Expressions.{static_range}
use Rattle.vhdl_names_trees.specs.views.Integers.{range_view}
use Rattle.vhdl_names_rules.specs.problems.Expressions as broken
use Rattle.vhdl_names_rules.proofs.Along.{gives_along}
use Rattle.vhdl_names_asked.proofs.Asking.{range_named_is, subtype_range_is}
use Rattle.vhdl_names_expressions.proofs.Breaking.{told_as}
use Rattle.vhdl_names_asked.proofs.RangeNames.{attribute_range_is}
use Rattle.vhdl_names_asked.proofs.ranges.static_range.Goals as goal

pub returns-in-Bounds-clause-given : goal.returns-in-Bounds-clause-given
returns-in-Bounds-clause-given c = gives_along range_view _ _ _ (ap (λ x. static_range c.args.sight.now (discrete_range_view x)) c.in-Bounds.is) c.bounds.ensures.given

pub returns-in-Bounds-clause-told : goal.returns-in-Bounds-clause-told
returns-in-Bounds-clause-told c = told_as _ _ _ (sym (ap (λ x. broken.static_range c.args.sight.now (discrete_range_view x)) c.in-Bounds.is)) c.bounds.ensures.told

pub returns-in-None-clause-given : goal.returns-in-None-clause-given
returns-in-None-clause-given c =
    gives_along range_view _ _ _ (ap (λ x. static_range c.args.sight.now (discrete_range_view x)) c.in-Name.is ∙ subtype_range_is c.args.sight.now (name_view c.in-Name.name) (ap (option_map attribute_view) c.in-None.is)) c.subtype_range.ensures.given

pub returns-in-None-clause-told : goal.returns-in-None-clause-told
returns-in-None-clause-told c =
    told_as _ _ _ (sym (ap (λ x. broken.static_range c.args.sight.now (discrete_range_view x)) c.in-Name.is ∙ ap (λ a. broken.range_named c.args.sight.now (name_view c.in-Name.name) (option_map attribute_view a)) c.in-None.is)) c.subtype_range.ensures.told

pub returns-in-Some-clause-given : goal.returns-in-Some-clause-given
returns-in-Some-clause-given c =
    gives_along range_view _ _ _ (ap (λ x. static_range c.args.sight.now (discrete_range_view x)) c.in-Name.is ∙ range_named_is c.args.sight.now (name_view c.in-Name.name)) c.attribute_range.ensures.given

pub returns-in-Some-clause-told : goal.returns-in-Some-clause-told
returns-in-Some-clause-told c =
    told_as _ _ _ (sym (ap (λ x. broken.static_range c.args.sight.now (discrete_range_view x)) c.in-Name.is ∙ attribute_range_is c.args.sight.now (name_view c.in-Name.name) _ (ap (option_map attribute_view) c.in-Some.is))) c.attribute_range.ensures.told
