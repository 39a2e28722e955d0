use Rattle.std.proofs.Common.{◌≡◌, map, drop}
use Rattle.vhdl_names_trees.specs.views.Vectors.{place_view}
use Rattle.vhdl_expand_rules.specs.Prefixes.{names_elements}
use Rattle.vhdl_expand_bodies.specs.Sites.{site_view}
use Rattle.vhdl_expand_operands.proofs.Several.{behind}
use Rattle.vhdl_expand_processes.proofs.elements.listed.Given as goal

-- the elements so far, and those of the names that are left
abbrev pub invariant-loop-item : goal.invariant-loop-item
invariant-loop-item l =
    names_elements (site_view l.site) (map place_view l.names)
    ≡ behind l.found.items (names_elements (site_view l.site) (map place_view (drop l.item-index l.names)))
