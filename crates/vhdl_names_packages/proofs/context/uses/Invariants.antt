use Rattle.std.proofs.Common.{◌≡◌, ◌||◌, map, drop}
use Rattle.std.specs.List.{list_all}
use Rattle.vhdl_names_rules.specs.Packages.{is_logic, is_numbers}
use Rattle.vhdl_tree.specs.View.{selected_view}
use Rattle.vhdl_names_rules.specs.problems.Broken.{any_of}
use Rattle.vhdl_names_rules.specs.problems.Declarations.{package_used}
use Rattle.vhdl_names_packages.specs.Contexts.{context_view}
use Rattle.vhdl_names_packages.proofs.context.uses.Given as goal

-- those that are left say whether all are offered, and what is told
abbrev pub invariant-loop-selected : goal.invariant-loop-selected
invariant-loop-selected l =
    (list_all (λ s. is_logic s || is_numbers s) (map selected_view l.all) ≡ list_all (λ s. is_logic s || is_numbers s) (map selected_view (drop l.selected-index l.all)))
    × (any_of (package_used (context_view l.before)) (map selected_view l.all) ≡ any_of (package_used (context_view l.fn.before)) (map selected_view (drop l.selected-index l.all)))
