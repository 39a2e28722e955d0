use Rattle.std.proofs.Common.{refl, sym, ◌∙◌}
use Rattle.std.proofs.Common.{List}
use Rattle.rtl_net.specs.declared.body.Statement.{Statement}
use Rattle.rtl_net.specs.Bodies.{statement_view, statements_of}
use Rattle.rtl_mixed_reasons.specs.Reasons.{computes, computes_in}
use Rattle.rtl_mixed_reasons.proofs.Searches.{found, passed, ended}
use Rattle.rtl_mixed_reasons.proofs.resets.computes.Goals as goal

pub returns-in-Some : goal.returns-in-Some
returns-in-Some c =
    let l = c.loop-statement in
    found (λ (x : Statement). computes_in c.args.wide c.args.at (statement_view x)) (λ (xs : List Statement). computes c.args.wide c.args.at (statements_of xs)) (λ (xs : List Statement). computes c.args.wide c.args.at (statements_of xs)) c.args.statements.now l.statement-index (λ x rest. refl) c.statement-item.result _ _ c.loop-statement-test.true c.statement-item.is l.invariant
    (sym c.computes_in.ensures ∙ c.in-Some.is)

pub loop-statement-preserved : goal.loop-statement-preserved
loop-statement-preserved c =
    let l = c.loop-statement in
    passed (λ (x : Statement). computes_in c.args.wide c.args.at (statement_view x)) (λ (xs : List Statement). computes c.args.wide c.args.at (statements_of xs)) (λ (xs : List Statement). computes c.args.wide c.args.at (statements_of xs)) c.args.statements.now l.statement-index (λ x rest. refl) c.statement-item.result _ c.loop-statement-test.true c.statement-item.is l.invariant
    (sym c.computes_in.ensures ∙ c.in_default.is)

pub returns : goal.returns
returns c = ended (λ (xs : List Statement). computes c.args.wide c.args.at (statements_of xs)) c.args.statements.now c.loop-statement.statement-index _ c.loop-statement-test.false refl c.loop-statement.invariant
