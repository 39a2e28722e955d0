use Rattle.std.proofs.Common.{ap, ◌∙◌}
use Rattle.vhdl_names_units.specs.declared.declaration.Declaration.TheVariants as v
use Rattle.vhdl_names_units.specs.views.Declarations as units
use Rattle.vhdl_expand_rules.specs.Declarations as definition
use Rattle.vhdl_expand_operands.proofs.Passing.{expands_along}
use Rattle.vhdl_expand_bodies.specs.Sites.{site_view}
use Rattle.vhdl_expand_declarations.specs.Variables.{variables_view}
use Rattle.vhdl_expand_declarations.proofs.Declaring.{process_walk, variables_walk, process_entered}
use Rattle.vhdl_expand_declarations.proofs.variables.declare.Goals as goal

pub returns-in-Variables : goal.returns-in-Variables
returns-in-Variables c =
    let s = variables_view (site_view c.args.site.now) c.args.declared.now in
    let os = units.object_view c.in-Variables.objects in
    expands_along _ _ _ _
    (ap (λ x. definition.process_declarations s (units.declaration_view x)) c.in-Variables.is ∙ process_walk s (units.declaration_view (v.Variables c.in-Variables.objects)) ∙ variables_walk s os)
    c.add_variables.ensures

pub returns-in_default : goal.returns-in_default
returns-in_default c =
    process_entered (site_view c.args.site.now) c.args.declared.now c.enter.new.declared c.args.declaration.now c.in_default.not-Variables c.enter.result c.enter.ensures.known c.enter.ensures.variables
