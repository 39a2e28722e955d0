use Rattle.std.proofs.Common.{◌≡◌, map, drop}
use Rattle.vhdl_expand_rules.specs.Prefixes.{prefixes_elements}
use Rattle.vhdl_expand_bodies.specs.Sites.{site_view}
use Rattle.vhdl_expand_operands.proofs.Several.{behind}
use Rattle.vhdl_expand_processes.specs.Named.{name_view}
use Rattle.vhdl_expand_processes.proofs.elements.prefixes.Given as goal

-- the elements so far, and those of the names that are left
abbrev pub invariant-loop-item : goal.invariant-loop-item
invariant-loop-item l =
    prefixes_elements (site_view l.site) (map name_view l.names)
    ≡ behind l.found.items (prefixes_elements (site_view l.site) (map name_view (drop l.item-index l.names)))
