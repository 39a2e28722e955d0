use Rattle.std.proofs.Common.{◌≡◌, map, drop}
use Rattle.std.specs.List.{list_any}
use Rattle.vhdl_names_rules.specs.Packages.{is_numbers}
use Rattle.vhdl_tree.specs.View.{selected_view}
use Rattle.vhdl_names_packages.proofs.context.uses_numbers.Given as goal

-- none of those before is one
abbrev pub invariant-loop-selected : goal.invariant-loop-selected
invariant-loop-selected l = list_any is_numbers (map selected_view l.all) ≡ list_any is_numbers (map selected_view (drop l.selected-index l.all))
