use Rattle.std.proofs.Common.{map, sym, ap, ◌∙◌}
use Rattle.vhdl_tree.specs.declared.expression.Identifier.{Identifier}
use Rattle.vhdl_tree.specs.View.{ident_view}
use Rattle.vhdl_expand_bodies.specs.Sites.{site_view}
use Rattle.vhdl_expand_tree.specs.Views.{variable_view}
use Rattle.vhdl_expand_declarations.specs.Objects.{named_object}
use Rattle.vhdl_expand_declarations.specs.Stepwise.{stepwise}
use Rattle.vhdl_expand_declarations.specs.Variables.{next_variable, variables_view}
use Rattle.vhdl_expand_declarations.proofs.Declaring.{variable_stepped}
use Rattle.vhdl_expand_declarations.proofs.Names.{named}
use Rattle.vhdl_expand_declarations.proofs.Walks.{one_goes, one_ends}
use Rattle.vhdl_expand_declarations.proofs.variables.add_variables.Goals as goal

pub loop-name-init : goal.loop-name-init
loop-name-init c =
    let objects = c.args.objects.now in
    ap (stepwise next_variable (variables_view (site_view c.args.site.now) c.args.declared.now))
    (named (named_object objects) objects.names.items ∙ ap (map (λ (n : Identifier). named_object objects (ident_view n))) (sym c.deref-name-items.ensures.value))

pub loop-name-preserved : goal.loop-name-preserved
loop-name-preserved c =
    let here = site_view c.args.site.now in
    let d = variables_view here c.loop-name.declared in
    let v = λ (n : Identifier). named_object c.args.objects.now (ident_view n) in
    one_goes next_variable v _ d _ c.deref-name-items.result.now c.loop-name.name-index c.name-item.result c.loop-name-test.true c.name-item.is c.loop-name.invariant
    (variable_stepped d _ (site_view c.within-inner.result) (v c.name-item.result) (variable_view c.in_ok-next.field-0) c.within-inner.ensures.seen c.in_ok-next.ensures.given (c.in_ok-add.ensures here))

pub returns : goal.returns
returns c =
    one_ends next_variable (λ (n : Identifier). named_object c.args.objects.now (ident_view n)) _ (variables_view (site_view c.args.site.now) c.loop-name.declared)
    c.deref-name-items.result.now c.loop-name.name-index c.loop-name-test.false c.loop-name.invariant
