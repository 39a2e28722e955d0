use Rattle.std.proofs.Common.{map, drop}
use Rattle.vhdl_names_trees.specs.views.Integers.{range_view}
use Rattle.vhdl_names_rules.specs.units.Statements as units
use Rattle.vhdl_names_units.specs.views.Sequential as analysed
use Rattle.vhdl_expand_rules.specs.Integers.{numbers_from}
use Rattle.vhdl_expand_rules.specs.Site.{in_loop}
use Rattle.vhdl_expand_bodies.specs.Sites.{site_view}
use Rattle.vhdl_expand_tree.specs.Views.{budget_view}
use Rattle.vhdl_expand_tree.proofs.Alike.{Alike}
use Rattle.vhdl_expand.specs.Unrolled.{paid, together, statement_costs, statements_costs, guarded_costs, chosen_costs}
use Rattle.vhdl_expand.proofs.costs.+costs.Given as goal

-- those that are left, paid from what is left, are all that were there
abbrev pub invariant-of_statements-loop-statement : goal.invariant-of_statements-loop-statement
invariant-of_statements-loop-statement l =
    Alike (paid (budget_view l.fn.budget) (statements_costs (site_view l.site) (analysed.statements_of (map analysed.statement_view l.list))))
    (paid (budget_view l.budget) (together (statement_costs (site_view l.site)) (map analysed.statement_view (drop l.statement-index l.list))))

abbrev pub invariant-of_branches-loop-branch : goal.invariant-of_branches-loop-branch
invariant-of_branches-loop-branch l =
    Alike (paid (budget_view l.fn.budget) (together (guarded_costs (site_view l.site)) (map analysed.branch_view l.list)))
    (paid (budget_view l.budget) (together (guarded_costs (site_view l.site)) (map analysed.branch_view (drop l.branch-index l.list))))

abbrev pub invariant-of_alternatives-loop-alternative : goal.invariant-of_alternatives-loop-alternative
invariant-of_alternatives-loop-alternative l =
    Alike (paid (budget_view l.fn.budget) (together (chosen_costs (site_view l.site)) (map analysed.alternative_view l.list)))
    (paid (budget_view l.budget) (together (chosen_costs (site_view l.site)) (map analysed.alternative_view (drop l.alternative-index l.list))))

-- the turns that are left
abbrev pub invariant-of_loop-loop-turn : goal.invariant-of_loop-loop-turn
invariant-of_loop-loop-turn l =
    Alike (paid (budget_view l.fn.budget) (statement_costs (site_view l.site) (units.for_of l.repeated.at (range_view l.repeated.range) (analysed.statements_of (analysed.statements_view l.repeated.statements)))))
    (paid (budget_view l.budget) (together (λ i. statements_costs (in_loop (site_view l.site) i) (analysed.statements_of (analysed.statements_view l.repeated.statements)))
    (drop l.turn (numbers_from l.turns.direction l.turns.first l.turns.count))))
