use Rattle.std.proofs.Common.{sym, ◌∙◌, rules, arith, []}
use Rattle.std.proofs.lemmas.Grind.{common_steps}
use Rattle.vhdl_lexer.specs.declared.token.TokenKind.TheVariants as k
use Rattle.vhdl_tree.specs.View.{sequentials_view, conditionals_view, alternatives_view}
use Rattle.vhdl_parser_expressions.specs.reader.Input.{◌>>◌, is_kind, expect, many_from}
use Rattle.vhdl_parser_statements.specs.reader.Sequential as read
use Rattle.vhdl_parser_statements.specs.reader.Sequential.{if_statement, case_statement, for_statement}
use Rattle.vhdl_parser_expressions.proofs.Turns.{one_more}
use Rattle.vhdl_parser_statements.proofs.Deeper.{statements_below}
use Rattle.vhdl_parser_statements.proofs.Taken.{no_other, at_end}
use Rattle.vhdl_parser_statements.proofs.sequential.+statement.Goals as goal

pub statements-loop-turn-preserved : goal.statements-loop-turn-preserved
unfolding many_from
statements-loop-turn-preserved t c =
    let e = one_more (λ n. many_from (read.begins_sequential c.args.language) (read.sequential c.args.language c.args.levels (read.deeper c.args.language c.args.levels)) n (sequentials_view c.loop-turn.found) c.loop-turn.parser) _ c.loop-turn._turn c.loop-turn-test.true c.loop-turn.invariant in
    grind (arith, common_steps)

pub branches-loop-turn-preserved : goal.branches-loop-turn-preserved
unfolding many_from
branches-loop-turn-preserved t c =
    let e = one_more (λ n. many_from (is_kind k.Elsif) (expect k.Elsif >> read.condition c.args.language c.args.levels (read.statements c.args.language c.args.levels)) n (conditionals_view c.loop-turn.found) c.loop-turn.parser) _ c.loop-turn._turn c.loop-turn-test.true c.loop-turn.invariant in
    grind (arith, common_steps)

pub alternatives-loop-turn-preserved : goal.alternatives-loop-turn-preserved
unfolding many_from
alternatives-loop-turn-preserved t c =
    let e = one_more (λ n. many_from (is_kind k.When) (expect k.When >> read.alternative_part c.args.language c.args.levels (read.statements c.args.language c.args.levels)) n (alternatives_view c.loop-turn.found) c.loop-turn.parser) _ c.loop-turn._turn c.loop-turn-test.true c.loop-turn.invariant in
    grind (arith, common_steps)

pub statements-returns : goal.statements-returns
statements-returns t c = c.loop-turn.invariant ∙ at_end _ _ _ c.loop-turn._turn _ _ c.loop-turn-test.false

pub branches-returns-then-not-sees : goal.branches-returns-then-not-sees
branches-returns-then-not-sees t c =
    c.loop-turn.invariant ∙ no_other _ _ _ c.loop-turn._turn _ _ c.loop-turn-test.true (sym c.sees.ensures ∙ c.if-not-sees.true)

pub branches-returns : goal.branches-returns
branches-returns t c = c.loop-turn.invariant ∙ at_end _ _ _ c.loop-turn._turn _ _ c.loop-turn-test.false

pub alternatives-returns-then-not-sees : goal.alternatives-returns-then-not-sees
alternatives-returns-then-not-sees t c =
    c.loop-turn.invariant ∙ no_other _ _ _ c.loop-turn._turn _ _ c.loop-turn-test.true (sym c.sees.ensures ∙ c.if-not-sees.true)

pub alternatives-returns : goal.alternatives-returns
alternatives-returns t c = c.loop-turn.invariant ∙ at_end _ _ _ c.loop-turn._turn _ _ c.loop-turn-test.false

pub if_statement-returns : goal.if_statement-returns
unfolding if_statement
if_statement-returns t c =
    let e = statements_below c.args.language c.args.levels c.in_ok-inner.inner [] (c.in_ok-inner.ensures.value []) in
    search rules

pub case_statement-returns : goal.case_statement-returns
unfolding case_statement
case_statement-returns t c =
    let e = statements_below c.args.language c.args.levels c.in_ok-inner.inner [] (c.in_ok-inner.ensures.value []) in
    search rules

pub for_statement-returns : goal.for_statement-returns
unfolding for_statement
for_statement-returns t c =
    let e = statements_below c.args.language c.args.levels c.in_ok-inner.inner [] (c.in_ok-inner.ensures.value []) in
    search rules
