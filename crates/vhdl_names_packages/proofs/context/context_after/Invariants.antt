use Rattle.std.proofs.Common.{◌≡◌, map, drop}
use Rattle.vhdl_names_rules.specs.declared.fault.NameFault.{NameFault}
use Rattle.vhdl_names_rules.specs.Packages as rules
use Rattle.vhdl_tree.specs.View as tree
use Rattle.vhdl_names_rules.specs.problems.Broken.{Tells}
use Rattle.vhdl_names_rules.specs.problems.Declarations as broken
use Rattle.vhdl_names_packages.specs.Contexts.{context_view}
use Rattle.vhdl_names_packages.proofs.context.context_after.Given as goal

-- what is left, on what is done, gives the whole; what is told of what is left is told of the whole
abbrev pub invariant-loop-item : goal.invariant-loop-item
invariant-loop-item l =
    (rules.context (context_view l.fn.before) (map tree.context_view l.items) ≡ rules.context (context_view l.now) (map tree.context_view (drop l.item-index l.items)))
    × ((f : NameFault) → Tells (broken.context (context_view l.now) (map tree.context_view (drop l.item-index l.items))) f → Tells (broken.context (context_view l.fn.before) (map tree.context_view l.items)) f)
