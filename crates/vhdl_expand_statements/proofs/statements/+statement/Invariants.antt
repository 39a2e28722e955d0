use Rattle.std.proofs.Common.{◌≡◌, map, drop}
use Rattle.rtl_net.specs.Bodies.{statements_of}
use Rattle.vhdl_names_units.specs.views.Sequential as analysed
use Rattle.vhdl_expand_rules.specs.Elab.{each}
use Rattle.vhdl_expand_rules.specs.Integers.{numbers_from}
use Rattle.vhdl_expand_rules.specs.Statements as definition
use Rattle.vhdl_expand_choices.specs.Views.{codes_by}
use Rattle.vhdl_expand_bodies.specs.Sites.{site_view}
use Rattle.vhdl_expand_statements.specs.Statements.{branch_view, alternative_view}
use Rattle.vhdl_expand_statements.specs.steps.Statements as steps
use Rattle.vhdl_expand_statements.specs.steps.Statements.{after}
use Rattle.vhdl_expand_operands.proofs.Several.{behind}
use Rattle.vhdl_expand_statements.proofs.statements.+statement.Given as goal

-- those so far, and those that are left
abbrev pub invariant-branches-loop-item : goal.invariant-branches-loop-item
invariant-branches-loop-item l =
    each (steps.branch (site_view l.site)) (map analysed.branch_view l.list)
    ≡ behind (map branch_view l.branches.items) (each (steps.branch (site_view l.site)) (map analysed.branch_view (drop l.item-index l.list)))

abbrev pub invariant-alternatives-loop-item : goal.invariant-alternatives-loop-item
invariant-alternatives-loop-item l =
    each (steps.alternative (site_view l.site) (codes_by (site_view l.site).integers l.fn.at l.fn.coding)) (map analysed.alternative_view l.list)
    ≡ behind (map alternative_view l.alternatives.items)
    (each (steps.alternative (site_view l.site) (codes_by (site_view l.site).integers l.fn.at l.fn.coding)) (map analysed.alternative_view (drop l.item-index l.list)))

-- the statements so far, and those that are left behind them
abbrev pub invariant-add_statements-loop-statement : goal.invariant-add_statements-loop-statement
invariant-add_statements-loop-statement l =
    after (statements_of l.fn.body.items) (definition.statements (site_view l.site) (analysed.statements_of (map analysed.statement_view l.list)))
    ≡ after (statements_of l.body.items) (definition.statements (site_view l.site) (analysed.statements_of (map analysed.statement_view (drop l.statement-index l.list))))

-- the turns so far, and those that are left behind them
abbrev pub invariant-add_turns-loop-turn : goal.invariant-add_turns-loop-turn
invariant-add_turns-loop-turn l =
    after (statements_of l.fn.body.items) (steps.repeated (site_view l.site) (analysed.statements_of (analysed.statements_view l.repeated.statements)) (numbers_from l.turns.direction l.turns.first l.turns.count))
    ≡ after (statements_of l.body.items) (steps.repeated (site_view l.site) (analysed.statements_of (analysed.statements_view l.repeated.statements)) (drop l.turn (numbers_from l.turns.direction l.turns.first l.turns.count)))
