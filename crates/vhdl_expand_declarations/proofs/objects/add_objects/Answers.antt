use Rattle.std.proofs.Common.{Err, ◌≡◌, ℕ, ◌<◌, List, length, map, Some, None, option_map, rules, arith, sym, ap, ◌∙◌, subst}
use Rattle.std.specs.Prelude.{◌≢◌, slice_get}
use Rattle.std.proofs.lemmas.Grind.{common_steps}
use Rattle.vhdl_tree.specs.declared.expression.Identifier.{Identifier}
use Rattle.vhdl_tree.specs.View.{ident_view}
use Rattle.vhdl_expand_tree.specs.Views.{object_view, role_view}
use Rattle.vhdl_names_units.specs.views.Answers.{fixed_view, form_view}
use Rattle.vhdl_names_units.specs.views.Declarations as units
use Rattle.vhdl_expand_rules.specs.declared.fault.ElabFault.TheVariants.{NoMemory}
use Rattle.vhdl_expand_rules.specs.Kinds.{ObjectKind}
use Rattle.vhdl_expand_rules.specs.Tree as t
use Rattle.vhdl_expand_rules.specs.views.Kinds.{kind_view}
use Rattle.vhdl_expand_declarations.specs.Objects.{named_object, next_object}
use Rattle.vhdl_expand_declarations.specs.Views.{declared_view}
use Rattle.vhdl_expand_declarations.specs.Stepwise.{stepwise}
use Rattle.vhdl_expand_declarations.proofs.Names.{named, no_names}
use Rattle.vhdl_expand_declarations.proofs.ObjectSteps.{MayHold, object_given, shape_stays, first_refused, port_holds}
use Rattle.vhdl_expand_declarations.proofs.Elsewhere.{shape_elsewhere}
use Rattle.vhdl_expand_declarations.proofs.Walks.{one_goes, one_ends}
use Rattle.vhdl_expand_rules.specs.Elab.{fault_told}
use Rattle.vhdl_expand_operands.proofs.Passing.{passed_on}
use Rattle.vhdl_expand_declarations.proofs.objects.add_objects.Goals as goal

pub returns-in_default : goal.returns-in_default
returns-in_default c =
    let objects = c.args.objects.now in
    let none : slice_get c.as_slice-names.result.now 0 ≡ None = first_of (search rules, cc (c.in_default.is), grind (arith, common_steps)) in
    ap (stepwise (next_object (role_view c.args.role)) (declared_view c.args.declared.now))
    (named (named_object objects) objects.names.items ∙ ap (map (λ (n : Identifier). named_object objects (ident_view n))) (sym c.as_slice-names.ensures.value ∙ no_names c.as_slice-names.result.now none))

pub returns-in_err-shape : goal.returns-in_err-shape
returns-in_err-shape c =
    let objects = c.args.objects.now in
    let v = λ (n : Identifier). named_object objects (ident_view n) in
    let there : slice_get c.as_slice-names.result.now 0 ≡ Some c.in-Some.first.now = sym c.in-Some.ensures.value in
    let walk = named (named_object objects) objects.names.items ∙ ap (map v) (sym c.as_slice-names.ensures.value) in
    let stopped : c.in_err-shape.field-0.0 ≢ NoMemory → (stepwise (next_object (role_view c.args.role)) (declared_view c.args.declared.now) (units.object_view objects)) ≡ Err (fault_told c.in_err-shape.field-0.0) =
    λ n. subst (λ (os : _). (stepwise (next_object (role_view c.args.role)) (declared_view c.args.declared.now) os) ≡ Err (fault_told c.in_err-shape.field-0.0)) (sym walk)
    (first_refused (role_view c.args.role) (declared_view c.args.declared.now) v c.as_slice-names.result.now c.in-Some.first.now there (c.in_err-shape.ensures n)) in
    passed_on _ _ c.in_err-shape.field-0.0 _ c.from_residual.result c.from_residual.ensures.1 (λ e p. p) stopped

pub loop-name-init : goal.loop-name-init
loop-name-init c =
    let objects = c.args.objects.now in
    record {
      rest = ap (stepwise (next_object (role_view c.args.role)) (declared_view c.args.declared.now))
          (named (named_object objects) objects.names.items ∙ ap (map (λ (n : Identifier). named_object objects (ident_view n))) (sym c.as_slice-names.ensures.value));
      there = λ at. shape_elsewhere (declared_view c.args.declared.now).site c.in-Some.first.now.at at (form_view objects.form) (option_map fixed_view objects.default) _ c.in_ok-shape.ensures;
      ports = c.requires;
    }

pub loop-name-preserved : goal.loop-name-preserved
loop-name-preserved c =
    let objects = c.args.objects.now in
    let role = role_view c.args.role in
    let v = λ (n : Identifier). named_object objects (ident_view n) in
    let d = declared_view c.loop-name.declared in
    let shape : ObjectKind × List ℕ = (kind_view c.in_ok-shape.shape.kind, c.in_ok-shape.shape.starts.items) in
    let below : c.loop-name.name-index < length c.as_slice-names.result.now = first_of (search rules, omega arith) in
    let object = object_view c.in_ok-object.object in
    let role_is : role ≡ object.role = sym (ap (λ (o : t.Object). o.role) c.in_ok-object.ensures.given) in
    let stepped = object_given d role (v c.name-item.result) shape object _ (c.loop-name.invariant.there c.name-item.result.at) c.in_ok-object.ensures.given c.in_ok-add_object.ensures in
    record {
      rest = one_goes (next_object role) v _ d _ c.as_slice-names.result.now c.loop-name.name-index c.name-item.result below c.name-item.is c.loop-name.invariant.rest stepped;
      there = λ at. shape_stays d _ object at (form_view objects.form) (option_map fixed_view objects.default) shape (subst (λ (r : t.Role). MayHold r d) role_is c.loop-name.invariant.ports)
          c.in_ok-add_object.ensures (c.loop-name.invariant.there at);
      ports = λ port. port_holds role port d _ (v c.name-item.result) (c.loop-name.invariant.ports port) stepped;
    }

pub returns : goal.returns
returns c =
    let objects = c.args.objects.now in
    one_ends (next_object (role_view c.args.role)) (λ (n : Identifier). named_object objects (ident_view n)) _ (declared_view c.loop-name.declared) c.as_slice-names.result.now c.loop-name.name-index (omega arith) c.loop-name.invariant.rest
