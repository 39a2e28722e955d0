use Rattle.std.proofs.Common.{◌≡◌, drop}
use Rattle.vhdl_names_units.specs.Lists.{in_turn}
use Rattle.vhdl_names_interfaces.specs.Views.{entities_view}
use Rattle.vhdl_names.specs.steps.Tables.{table_view, with_seen, no_table}
use Rattle.vhdl_names.proofs.tables.table.Given as goal

-- what is left, on the table so far, gives the whole
abbrev pub invariant-loop-place : goal.invariant-loop-place
invariant-loop-place l =
    in_turn with_seen no_table (entities_view l.entities) ≡ in_turn with_seen (table_view l.table) (drop l.place (entities_view l.entities))
