use Rattle.std.proofs.Common.{◌≡◌, Err, ◌<◌, length, rules, arith, ◌∙◌}
use Rattle.std.specs.Prelude.{◌≢◌, flat_map}
use Rattle.vhdl_names_units.specs.views.Declarations.{generics_view}
use Rattle.vhdl_expand_rules.specs.declared.fault.ElabFault.TheVariants.{NoMemory}
use Rattle.vhdl_expand_rules.specs.Elab.{fault_told}
use Rattle.vhdl_expand_bodies.specs.Sites.{site_view}
use Rattle.vhdl_expand_operands.proofs.Passing.{passed_on}
use Rattle.vhdl_expand_declarations.specs.Generics.{actuals_view, all_generics, further_view, next_generic}
use Rattle.vhdl_expand_declarations.specs.Views.{declared_view}
use Rattle.vhdl_expand_declarations.proofs.Given.{all_stepped, all_stopped}
use Rattle.vhdl_expand_declarations.proofs.Walks.{all_go, all_stop, all_end}
use Rattle.vhdl_expand_declarations.proofs.generics.add_all_generics.Goals as goal

pub loop-declaration-preserved : goal.loop-declaration-preserved
loop-declaration-preserved c =
    let step = next_generic (site_view c.args.above.now) (actuals_view c.args.actuals.now) in
    let below : c.loop-declaration.declaration-index < length c.args.declarations.now = first_of (search rules, omega arith) in
    record {
      rest = all_go step generics_view _ (further_view c.loop-declaration.count c.loop-declaration.declared) _ c.args.declarations.now c.loop-declaration.declaration-index c.declaration-item.result
          below c.declaration-item.is c.loop-declaration.invariant.rest c.in_ok-count.ensures.given;
      signals = c.in_ok-count.ensures.signals ∙ c.loop-declaration.invariant.signals;
    }

pub returns-clause-given : goal.returns-clause-given
returns-clause-given c =
    let above = site_view c.args.above.now in
    let actuals = actuals_view c.args.actuals.now in
    let last = further_view c.loop-declaration.count c.loop-declaration.declared in
    all_stepped above actuals (declared_view c.args.declared.now) last _
    (all_end (next_generic above actuals) generics_view _ last c.args.declarations.now c.loop-declaration.declaration-index (omega arith) c.loop-declaration.invariant.rest)

pub returns-in_err-count-clause-given : goal.returns-in_err-count-clause-given
returns-in_err-count-clause-given c =
    let above = site_view c.args.above.now in
    let actuals = actuals_view c.args.actuals.now in
    let d = declared_view c.args.declared.now in
    let below : c.loop-declaration.declaration-index < length c.args.declarations.now = first_of (search rules, omega arith) in
    let stopped : c.in_err-count.field-0.0 ≢ NoMemory → all_generics above actuals d (flat_map generics_view c.args.declarations.now) ≡ Err (fault_told c.in_err-count.field-0.0) =
    λ n. all_stopped above actuals d (flat_map generics_view c.args.declarations.now)
    (all_stop (next_generic above actuals) generics_view _ (further_view c.loop-declaration.count c.loop-declaration.declared) c.args.declarations.now c.loop-declaration.declaration-index c.declaration-item.result
    below c.declaration-item.is c.loop-declaration.invariant.rest (c.in_err-count.ensures.given n)) in
    passed_on _ _ c.in_err-count.field-0.0 _ c.from_residual.result c.from_residual.ensures.1 (λ e p. p) stopped
