use Rattle.std.proofs.Common.{◌≡◌, Err, ◌<◌, length, map, rules, arith, sym, ap, ◌∙◌, subst}
use Rattle.std.specs.Prelude.{◌≢◌, flat_map}
use Rattle.vhdl_names_units.specs.views.Declarations.{ports_view}
use Rattle.vhdl_expand_tree.specs.Views.{object_view}
use Rattle.vhdl_expand_rules.specs.Declarations as definition
use Rattle.vhdl_expand_rules.specs.declared.fault.ElabFault.TheVariants.{NoMemory}
use Rattle.vhdl_expand_rules.proofs.Steps.{given}
use Rattle.vhdl_expand_rules.proofs.Chains.{err_first}
use Rattle.vhdl_expand_rules.specs.Elab.{◌>>=◌, fault_told}
use Rattle.vhdl_expand_bodies.specs.Sites.{site_view}
use Rattle.vhdl_expand_declarations.specs.Associations.{Associated, associated_to, next_associated, places_view}
use Rattle.vhdl_expand_declarations.proofs.Associating.{associations_walk}
use Rattle.vhdl_expand_declarations.proofs.Walks.{all_go, all_stop, all_end}
use Rattle.vhdl_expand_operands.proofs.Passing.{passed_on}
use Rattle.vhdl_expand_declarations.proofs.actuals.associate_ports.Goals as goal

pub loop-declaration-preserved : goal.loop-declaration-preserved
loop-declaration-preserved c =
    let step = next_associated (site_view c.args.above.now) c.args.at (places_view c.args.actuals.now) in
    let below : c.loop-declaration.declaration-index < length c.args.declarations.now = first_of (search rules, omega arith) in
    record {
      rest = all_go step ports_view _ (associated_to c.loop-declaration.count c.loop-declaration.ports.items) _ c.args.declarations.now c.loop-declaration.declaration-index c.declaration-item.result
          below c.declaration-item.is c.loop-declaration.invariant.rest c.in_ok-count.ensures.given;
      within = c.in_ok-count.ensures.within;
    }

pub returns : goal.returns
returns c =
    let step = next_associated (site_view c.args.above.now) c.args.at (places_view c.args.actuals.now) in
    associations_walk (site_view c.args.above.now) c.args.at (places_view c.args.actuals.now) c.args.ports.now.items (flat_map ports_view c.args.declarations.now)
    ∙ ap (λ r. r >>= λ (s : Associated). given s.done)
    (all_end step ports_view _ (associated_to c.loop-declaration.count c.loop-declaration.ports.items) c.args.declarations.now c.loop-declaration.declaration-index (omega arith) c.loop-declaration.invariant.rest)
    ∙ ap (λ os. given (map object_view os)) (sym c.truncate.ensures.items)

pub returns-in_err-count : goal.returns-in_err-count
returns-in_err-count c =
    let above = site_view c.args.above.now in
    let actuals = places_view c.args.actuals.now in
    let below : c.loop-declaration.declaration-index < length c.args.declarations.now = first_of (search rules, omega arith) in
    let stopped : c.in_err-count.field-0.0 ≢ NoMemory → (definition.associations above c.args.at (flat_map ports_view c.args.declarations.now) actuals (map object_view c.args.ports.now.items)) ≡ Err (fault_told c.in_err-count.field-0.0) =
    λ n. subst (λ r. r ≡ Err (fault_told c.in_err-count.field-0.0)) (sym (associations_walk above c.args.at actuals c.args.ports.now.items (flat_map ports_view c.args.declarations.now)))
    (err_first _ (λ (s : Associated). given s.done)
    (all_stop (next_associated above c.args.at actuals) ports_view _ (associated_to c.loop-declaration.count c.loop-declaration.ports.items) c.args.declarations.now c.loop-declaration.declaration-index c.declaration-item.result
    below c.declaration-item.is c.loop-declaration.invariant.rest (c.in_err-count.ensures.given n))) in
    passed_on _ _ c.in_err-count.field-0.0 _ c.from_residual.result c.from_residual.ensures.1 (λ e p. p) stopped
