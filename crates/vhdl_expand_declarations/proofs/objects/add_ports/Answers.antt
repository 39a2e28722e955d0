use Rattle.std.proofs.Common.{◌≡◌, Err, rules, arith, sym, ap, ◌∙◌, subst}
use Rattle.std.specs.Prelude.{◌≢◌, flat_map}
use Rattle.vhdl_names_units.specs.views.Declarations as units
use Rattle.vhdl_expand_rules.specs.Declarations as definition
use Rattle.vhdl_expand_rules.specs.declared.fault.ElabFault.TheVariants.{NoMemory}
use Rattle.vhdl_expand_rules.specs.Tree.{Role, internal}
use Rattle.vhdl_expand_tree.specs.Views.{role_view}
use Rattle.vhdl_expand_declarations.specs.Objects.{next_object}
use Rattle.vhdl_expand_declarations.specs.Views.{declared_view}
use Rattle.vhdl_expand_declarations.specs.Stepwise.{stepwise}
use Rattle.vhdl_expand_declarations.proofs.ObjectSteps.{next_port, ports_walk, port_objects, ports_hold, role_port}
use Rattle.vhdl_expand_declarations.proofs.Walks.{all_go, all_stop, all_end}
use Rattle.vhdl_expand_rules.specs.Elab.{fault_told}
use Rattle.vhdl_expand_operands.proofs.Passing.{passed_on}
use Rattle.vhdl_expand_declarations.proofs.objects.add_ports.Goals as goal

pub loop-declaration-preserved : goal.loop-declaration-preserved
loop-declaration-preserved c =
    let d = declared_view c.loop-declaration.declared in
    let item = c.declaration-item.result in
    let port = subst (λ (r : Role). r ≢ internal) (sym c.role_of.ensures) (role_port item.mode) in
    record {
      rest = all_go next_port units.ports_view _ d _ c.args.declarations.now c.loop-declaration.declaration-index item (first_of (search rules, omega arith)) c.declaration-item.is c.loop-declaration.invariant.rest
          (port_objects item.mode d (units.object_view item.objects) ∙ ap (λ r. stepwise (next_object r) d (units.object_view item.objects)) (sym c.role_of.ensures) ∙ c.in_ok-add_objects.ensures);
      none = ports_hold (role_view c.role_of.result) port d _ (units.object_view item.objects) c.loop-declaration.invariant.none c.in_ok-add_objects.ensures;
    }

pub returns : goal.returns
returns c =
    ports_walk (declared_view c.args.declared.now) _
    ∙ all_end next_port units.ports_view _ (declared_view c.loop-declaration.declared) c.args.declarations.now c.loop-declaration.declaration-index (omega arith) c.loop-declaration.invariant.rest

pub returns-in_err-add_objects : goal.returns-in_err-add_objects
returns-in_err-add_objects c =
    let d = declared_view c.loop-declaration.declared in
    let item = c.declaration-item.result in
    let same = port_objects item.mode d (units.object_view item.objects) ∙ ap (λ r. stepwise (next_object r) d (units.object_view item.objects)) (sym c.role_of.ensures) in
    let stopped : c.in_err-add_objects.field-0.0 ≢ NoMemory → (definition.ports (declared_view c.args.declared.now) (flat_map units.ports_view c.args.declarations.now)) ≡ Err (fault_told c.in_err-add_objects.field-0.0) =
    λ n. subst (λ r. r ≡ Err (fault_told c.in_err-add_objects.field-0.0)) (sym (ports_walk (declared_view c.args.declared.now) (flat_map units.ports_view c.args.declarations.now)))
    (all_stop next_port units.ports_view _ d c.args.declarations.now c.loop-declaration.declaration-index item (first_of (search rules, omega arith)) c.declaration-item.is c.loop-declaration.invariant.rest
    (subst (λ r. r ≡ Err (fault_told c.in_err-add_objects.field-0.0)) (sym same) (c.in_err-add_objects.ensures n))) in
    passed_on _ _ c.in_err-add_objects.field-0.0 _ c.from_residual.result c.from_residual.ensures.1 (λ e p. p) stopped
