use Rattle.std.proofs.Common.{◌≡◌, map, drop}
use Rattle.std.specs.List.{list_all}
use Rattle.vhdl_tree.specs.Tree.{exprs_of}
use Rattle.vhdl_tree.specs.View.{view}
use Rattle.vhdl_names_rules.specs.Local as rules
use Rattle.vhdl_names_parts.proofs.local.+is_local.Given as goal

-- the operands so far are locally static
abbrev pub invariant-links_are_local-loop-link : goal.invariant-links_are_local-loop-link
invariant-links_are_local-loop-link l =
    list_all (λ k. rules.is_local l.sight (view k.operand)) l.links ≡ list_all (λ k. rules.is_local l.sight (view k.operand)) (drop l.link-index l.links)

-- the expressions so far are locally static
abbrev pub invariant-are_local-loop-e : goal.invariant-are_local-loop-e
invariant-are_local-loop-e l = rules.are_local l.sight (exprs_of (map view l.all)) ≡ rules.are_local l.sight (exprs_of (map view (drop l.e-index l.all)))
