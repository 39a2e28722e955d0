use Rattle.std.proofs.Common.{◌≡◌, [], drop}
use Rattle.vhdl_names_sight.specs.Views.{region_view}
use Rattle.vhdl_names_declarations.specs.Entered.{more}
use Rattle.vhdl_names_interfaces.proofs.sights.copied_region.Given as goal

-- what is left, behind the copy, gives the whole
abbrev pub invariant-loop-place : goal.invariant-loop-place
invariant-loop-place l = more [] (region_view l.region) ≡ more (region_view l.copy) (drop l.place (region_view l.region))
