use Rattle.std.proofs.Common.{◌≡◌, ◌≢◌, None}
use Rattle.std.specs.Prelude.{option_map}
use Rattle.vhdl_names_rules.specs.declared.fault.NameFault.TheVariants.{NoMemory}
use Rattle.vhdl_names_sight.specs.Views.{region_view}
use Rattle.vhdl_names_units.specs.Lists.{in_turn}
use Rattle.vhdl_names_instances.specs.Table.{seen_view}
use Rattle.vhdl_names_instances.specs.steps.Tables as steps
use Rattle.vhdl_names_instances.proofs.Tabling.{declared_fails, declared_goes}
use Rattle.vhdl_names_rules.proofs.Passing.{passed_on}
use Rattle.vhdl_names_instances.proofs.tables.formals_of.Goals as goal

pub returns-in_err-add_declared_at : goal.returns-in_err-add_declared_at
returns-in_err-add_declared_at c =
    let f : c.in_err-add_declared_at.field-0.0 ≢ NoMemory
    → in_turn steps.with_declared (steps.no_formals (option_map (λ i. i.now.text.items) c.args.architecture.now)) (region_view c.args.region.now) ≡ None =
    λ n. declared_fails _ (seen_view c.loop-place.formals) (region_view c.args.region.now) c.loop-place.place c.loop-place.invariant (c.in_err-add_declared_at.ensures n) in
    passed_on _ _ c.in_err-add_declared_at.field-0.0 _ c.from_residual-in_err-add_declared_at.result c.from_residual-in_err-add_declared_at.ensures.1 (λ e p. p) f

pub loop-place-preserved : goal.loop-place-preserved
loop-place-preserved c =
    declared_goes _ (seen_view c.loop-place.formals) (region_view c.args.region.now) c.loop-place.place c.loop-place.invariant _ c.in_ok-add_declared_at.ensures
