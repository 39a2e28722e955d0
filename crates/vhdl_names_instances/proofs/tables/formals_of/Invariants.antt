use Rattle.std.proofs.Common.{◌≡◌, drop}
use Rattle.std.specs.Prelude.{option_map}
use Rattle.vhdl_names_sight.specs.Views.{region_view}
use Rattle.vhdl_names_units.specs.Lists.{in_turn}
use Rattle.vhdl_names_instances.specs.Table.{seen_view}
use Rattle.vhdl_names_instances.specs.steps.Tables as steps
use Rattle.vhdl_names_instances.proofs.tables.formals_of.Given as goal

abbrev pub invariant-loop-place : goal.invariant-loop-place
invariant-loop-place l =
    in_turn steps.with_declared (steps.no_formals (option_map (λ i. i.now.text.items) l.fn.architecture)) (region_view l.region)
    ≡ in_turn steps.with_declared (seen_view l.formals) (drop l.place (region_view l.region))
