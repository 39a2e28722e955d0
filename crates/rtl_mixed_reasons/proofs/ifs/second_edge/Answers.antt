use Rattle.std.proofs.Common.{refl, sym, ◌∙◌}
use Rattle.rtl_mixed_reasons.specs.Reasons.{first_in, second_if}
use Rattle.rtl_mixed_reasons.proofs.Searches.{first-found, first-passed, ended}
use Rattle.rtl_mixed_reasons.proofs.ifs.second_edge.Goals as goal

pub returns-then-is_some : goal.returns-then-is_some
returns-then-is_some c =
    let l = c.loop-statement in
    first-found (second_if c.args.wide c.args.process.now c.args.first.now c.args.found) c.args.statements.now l.statement-index c.statement-item.result _ c.loop-statement-test.true c.statement-item.is l.invariant _ c.in_ok-reason.ensures (sym c.is_some.ensures ∙ c.if-is_some.true)

pub loop-statement-preserved : goal.loop-statement-preserved
loop-statement-preserved c =
    let l = c.loop-statement in
    first-passed (second_if c.args.wide c.args.process.now c.args.first.now c.args.found) c.args.statements.now l.statement-index c.statement-item.result _ c.loop-statement-test.true c.statement-item.is l.invariant _ c.in_ok-reason.ensures (sym c.is_some.ensures ∙ c.if-is_some.false)

pub returns : goal.returns
returns c = ended (first_in (second_if c.args.wide c.args.process.now c.args.first.now c.args.found)) c.args.statements.now c.loop-statement.statement-index _ c.loop-statement-test.false refl c.loop-statement.invariant
