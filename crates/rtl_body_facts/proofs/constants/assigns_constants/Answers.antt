use Rattle.std.proofs.Common.{sym, ◌∙◌}
use Rattle.rtl_body_facts.proofs.Timings.{constants_lost, constants_go, constants_end}
use Rattle.rtl_body_facts.proofs.constants.assigns_constants.Goals as goal

pub returns-then-not-statement_is_constant : goal.returns-then-not-statement_is_constant
returns-then-not-statement_is_constant c =
    let l = c.loop-statement in
    constants_lost c.args.statements.now l.statement-index c.statement-item.result c.loop-statement-test.true c.statement-item.is l.invariant
    (sym c.statement_is_constant.ensures ∙ c.if-not-statement_is_constant.true)

pub loop-statement-preserved : goal.loop-statement-preserved
loop-statement-preserved c =
    let l = c.loop-statement in
    constants_go c.args.statements.now l.statement-index c.statement-item.result c.loop-statement-test.true c.statement-item.is l.invariant
    (sym c.statement_is_constant.ensures ∙ c.if-not-statement_is_constant.false)

pub returns : goal.returns
returns c = let l = c.loop-statement in constants_end c.args.statements.now l.statement-index c.loop-statement-test.false l.invariant
