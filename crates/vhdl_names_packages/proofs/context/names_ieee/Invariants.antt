use Rattle.std.proofs.Common.{◌≡◌, map, drop}
use Rattle.std.specs.List.{list_any}
use Rattle.vhdl_names_rules.specs.Packages.{is_ieee}
use Rattle.vhdl_tree.specs.View.{ident_view}
use Rattle.vhdl_names_packages.proofs.context.names_ieee.Given as goal

-- none of those before is one
abbrev pub invariant-loop-name : goal.invariant-loop-name
invariant-loop-name l = list_any is_ieee (map ident_view l.names) ≡ list_any is_ieee (map ident_view (drop l.name-index l.names))
