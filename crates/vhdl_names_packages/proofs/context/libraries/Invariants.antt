use Rattle.std.proofs.Common.{◌≡◌, map, drop}
use Rattle.std.specs.List.{list_all}
use Rattle.vhdl_names_rules.specs.Packages.{is_library}
use Rattle.vhdl_tree.specs.View.{ident_view}
use Rattle.vhdl_names_rules.specs.problems.Broken.{any_of}
use Rattle.vhdl_names_rules.specs.problems.Declarations.{library_named}
use Rattle.vhdl_names_packages.proofs.context.libraries.Given as goal

-- those that are left say whether all are libraries, and what is told
abbrev pub invariant-loop-name : goal.invariant-loop-name
invariant-loop-name l =
    (list_all is_library (map ident_view l.names) ≡ list_all is_library (map ident_view (drop l.name-index l.names)))
    × (any_of library_named (map ident_view l.names) ≡ any_of library_named (map ident_view (drop l.name-index l.names)))
