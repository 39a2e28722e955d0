use Rattle.std.proofs.Common.{◌≡◌, map, drop}
use Rattle.vhdl_names_sight.specs.Views.{region_view}
use Rattle.vhdl_names_declarations.specs.Entered.{more}
use Rattle.vhdl_names_packages.specs.Rows.{row_view}
use Rattle.vhdl_names_packages.proofs.packages.add_rows.Given as goal

-- what is left, on what is done, gives the whole
abbrev pub invariant-loop-row : goal.invariant-loop-row
invariant-loop-row l = more (region_view l.initial.region) (map row_view l.rows) ≡ more (region_view l.region) (map row_view (drop l.row-index l.rows))
