use Rattle.std.proofs.Common.{ap, ◌∙◌}
use Rattle.vhdl_names_units.specs.views.Declarations as units
use Rattle.vhdl_expand_rules.specs.Declarations as definition
use Rattle.vhdl_expand_operands.proofs.Passing.{expands_along}
use Rattle.vhdl_expand_declarations.specs.Views.{declared_view}
use Rattle.vhdl_expand_declarations.proofs.Declaring.{instance_entered}
use Rattle.vhdl_expand_declarations.proofs.ObjectSteps.{signals_walk}
use Rattle.vhdl_expand_declarations.proofs.declarative.declare.Goals as goal

pub returns-in-Signals : goal.returns-in-Signals
returns-in-Signals c =
    let d = declared_view c.args.declared.now in
    expands_along _ _ _ _ (ap (λ x. definition.declarations d (units.declaration_view x)) c.in-Signals.is ∙ signals_walk d (units.object_view c.in-Signals.objects)) c.add_objects.ensures

pub returns-in_default : goal.returns-in_default
returns-in_default c =
    instance_entered c.args.declared.now c.enter.new.self c.args.declaration.now c.in_default.not-Signals c.enter.result c.enter.ensures.site c.enter.ensures.objects
