use Rattle.std.proofs.Common.{◌≡◌, drop}
use Rattle.std.specs.List.{list_all}
use Rattle.vhdl_names_rules.specs.Names as rules
use Rattle.vhdl_names_trees.specs.views.Integers.{static_view}
use Rattle.vhdl_names_parts.proofs.edges.+is_static.Given as goal

-- the operands so far are static
abbrev pub invariant-are_static-loop-link : goal.invariant-are_static-loop-link
invariant-are_static-loop-link l =
    list_all (λ k. rules.is_static (static_view k.operand)) l.links ≡ list_all (λ k. rules.is_static (static_view k.operand)) (drop l.link-index l.links)
