use Rattle.std.proofs.Common.{map, option_map, ap, ◌∙◌, subst}
use Rattle.vhdl_names_units.specs.views.Actuals.{each_actual}
use Rattle.vhdl_names_units.specs.views.Answers.{fixed_view}
use Rattle.vhdl_names_units.specs.views.Units.{entity_view}
use Rattle.vhdl_expand_rules.specs.Declarations as definition
use Rattle.vhdl_expand_operands.specs.Results.{Expands}
use Rattle.vhdl_expand_bodies.specs.Sites.{site_view}
use Rattle.vhdl_expand_declarations.specs.Views.{declared_view}
use Rattle.vhdl_expand_declarations.proofs.Names.{lent_seen}
use Rattle.vhdl_expand_declarations.proofs.declarative.interface.Goals as goal

pub returns : goal.returns
returns c =
    let seen = lent_seen fixed_view c.deref.result.now (each_actual c.args.actuals.now) (ap (map (option_map (λ x. x.now))) c.deref.ensures.value ∙ c.in_ok-actuals.ensures) in
    subst (λ values. Expands declared_view (definition.interface (site_view c.args.above.now) values (entity_view c.args.unit.now)) c.interface_with.result) seen c.interface_with.ensures
