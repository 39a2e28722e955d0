use Rattle.std.proofs.Common.{◌≡◌, Err, ◌<◌, length, rules, arith, sym, ap, ◌∙◌}
use Rattle.std.specs.Prelude.{◌≢◌, flat_map}
use Rattle.vhdl_names_units.specs.views.Declarations.{declaration_view}
use Rattle.vhdl_expand_rules.specs.Declarations as definition
use Rattle.vhdl_expand_rules.specs.declared.fault.ElabFault.TheVariants.{NoMemory}
use Rattle.vhdl_expand_rules.specs.Elab.{fault_told}
use Rattle.vhdl_expand_bodies.specs.Sites.{site_view}
use Rattle.vhdl_expand_operands.proofs.Passing.{passed_on}
use Rattle.vhdl_expand_declarations.specs.Stepwise.{stepwise}
use Rattle.vhdl_expand_declarations.specs.Variables.{variables_view}
use Rattle.vhdl_expand_declarations.proofs.Declaring.{process_walk}
use Rattle.vhdl_expand_declarations.proofs.Walks.{all_go, all_stop, all_end}
use Rattle.vhdl_expand_declarations.proofs.variables.process_declarations.Goals as goal

pub loop-declaration-init : goal.loop-declaration-init
loop-declaration-init c =
    let here = site_view c.args.site.now in
    ap (λ s. stepwise definition.process_declaration s (flat_map declaration_view c.args.declarations.now)) (sym (c.new-declared.ensures here))

pub loop-declaration-preserved : goal.loop-declaration-preserved
loop-declaration-preserved c =
    let d = variables_view (site_view c.args.site.now) c.loop-declaration.declared in
    let item = c.declaration-item.result in
    let below : c.loop-declaration.declaration-index < length c.args.declarations.now = first_of (search rules, omega arith) in
    all_go definition.process_declaration declaration_view _ d _ c.args.declarations.now c.loop-declaration.declaration-index item below c.declaration-item.is c.loop-declaration.invariant
    (sym (process_walk d (declaration_view item)) ∙ c.in_ok-declare.ensures)

pub returns : goal.returns
returns c =
    let here = site_view c.args.site.now in
    process_walk (definition.no_variables here) (flat_map declaration_view c.args.declarations.now)
    ∙ all_end definition.process_declaration declaration_view _ (variables_view here c.loop-declaration.declared) c.args.declarations.now c.loop-declaration.declaration-index (omega arith) c.loop-declaration.invariant

pub returns-in_err-declare : goal.returns-in_err-declare
returns-in_err-declare c =
    let here = site_view c.args.site.now in
    let d = variables_view here c.loop-declaration.declared in
    let item = c.declaration-item.result in
    let all = flat_map declaration_view c.args.declarations.now in
    let fault = c.in_err-declare.field-0.0 in
    let below : c.loop-declaration.declaration-index < length c.args.declarations.now = first_of (search rules, omega arith) in
    let stopped : fault ≢ NoMemory → definition.process_declarations (definition.no_variables here) all ≡ Err (fault_told fault) =
    λ n. process_walk (definition.no_variables here) all
    ∙ all_stop definition.process_declaration declaration_view _ d c.args.declarations.now c.loop-declaration.declaration-index item below c.declaration-item.is c.loop-declaration.invariant
    (sym (process_walk d (declaration_view item)) ∙ c.in_err-declare.ensures n) in
    passed_on _ _ fault _ c.from_residual.result c.from_residual.ensures.1 (λ e p. p) stopped
