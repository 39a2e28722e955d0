use Rattle.std.proofs.Common.{refl, sym, ◌∙◌}
use Rattle.rtl_body_facts.specs.Reading.{is_in}
use Rattle.rtl_mixed_reasons.specs.Reasons.{first_in, told_behind}
use Rattle.rtl_mixed_reasons.proofs.Searches.{first-found, first-passed, ended}
use Rattle.rtl_mixed_reasons.proofs.resets.reset_behind.Goals as goal

pub returns-then-is_some : goal.returns-then-is_some
returns-then-is_some c =
    let l = c.loop-statement in
    first-found (told_behind c.args.wide c.args.process.now (λ n. is_in n c.args.edge.now)) c.args.statements.now l.statement-index c.statement-item.result _ c.loop-statement-test.true c.statement-item.is l.invariant _ c.in_ok-reason.ensures (sym c.is_some.ensures ∙ c.if-is_some.true)

pub loop-statement-preserved : goal.loop-statement-preserved
loop-statement-preserved c =
    let l = c.loop-statement in
    first-passed (told_behind c.args.wide c.args.process.now (λ n. is_in n c.args.edge.now)) c.args.statements.now l.statement-index c.statement-item.result _ c.loop-statement-test.true c.statement-item.is l.invariant _ c.in_ok-reason.ensures (sym c.is_some.ensures ∙ c.if-is_some.false)

pub returns : goal.returns
returns c = ended (first_in (told_behind c.args.wide c.args.process.now (λ n. is_in n c.args.edge.now))) c.args.statements.now c.loop-statement.statement-index _ c.loop-statement-test.false refl c.loop-statement.invariant
