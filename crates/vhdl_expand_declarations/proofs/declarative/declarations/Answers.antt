use Rattle.std.proofs.Common.{◌≡◌, Err, ◌<◌, length, rules, arith, sym, ◌∙◌, subst}
use Rattle.std.specs.Prelude.{◌≢◌, flat_map}
use Rattle.vhdl_names_units.specs.views.Declarations.{declaration_view}
use Rattle.vhdl_expand_rules.specs.Declarations as definition
use Rattle.vhdl_expand_rules.specs.declared.fault.ElabFault.TheVariants.{NoMemory}
use Rattle.vhdl_expand_declarations.specs.Views.{declared_view}
use Rattle.vhdl_expand_declarations.proofs.ObjectSteps.{declarations_walk}
use Rattle.vhdl_expand_declarations.proofs.Walks.{all_go, all_stop, all_end}
use Rattle.vhdl_expand_rules.specs.Elab.{fault_told}
use Rattle.vhdl_expand_operands.proofs.Passing.{passed_on}
use Rattle.vhdl_expand_declarations.proofs.declarative.declarations.Goals as goal

pub loop-declaration-preserved : goal.loop-declaration-preserved
loop-declaration-preserved c =
    let d = declared_view c.loop-declaration.declared in
    let item = c.declaration-item.result in
    let below : c.loop-declaration.declaration-index < length c.args.list.now = first_of (search rules, omega arith) in
    all_go definition.declaration declaration_view _ d _ c.args.list.now c.loop-declaration.declaration-index item below c.declaration-item.is c.loop-declaration.invariant
    (sym (declarations_walk d (declaration_view item)) ∙ c.in_ok-declare.ensures)

pub returns : goal.returns
returns c =
    declarations_walk (declared_view c.args.declared.now) _
    ∙ all_end definition.declaration declaration_view _ (declared_view c.loop-declaration.declared) c.args.list.now c.loop-declaration.declaration-index (omega arith) c.loop-declaration.invariant

pub returns-in_err-declare : goal.returns-in_err-declare
returns-in_err-declare c =
    let d = declared_view c.loop-declaration.declared in
    let item = c.declaration-item.result in
    let below : c.loop-declaration.declaration-index < length c.args.list.now = first_of (search rules, omega arith) in
    let stopped : c.in_err-declare.field-0.0 ≢ NoMemory → (definition.declarations (declared_view c.args.declared.now) (flat_map declaration_view c.args.list.now)) ≡ Err (fault_told c.in_err-declare.field-0.0) =
    λ n. subst (λ r. r ≡ Err (fault_told c.in_err-declare.field-0.0)) (sym (declarations_walk (declared_view c.args.declared.now) (flat_map declaration_view c.args.list.now)))
    (all_stop definition.declaration declaration_view _ d c.args.list.now c.loop-declaration.declaration-index item below c.declaration-item.is c.loop-declaration.invariant
    (subst (λ r. r ≡ Err (fault_told c.in_err-declare.field-0.0)) (declarations_walk d (declaration_view item)) (c.in_err-declare.ensures n))) in
    passed_on _ _ c.in_err-declare.field-0.0 _ c.from_residual.result c.from_residual.ensures.1 (λ e p. p) stopped
