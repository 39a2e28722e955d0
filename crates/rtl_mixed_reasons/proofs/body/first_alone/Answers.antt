use Rattle.std.proofs.Common.{refl, sym, ◌∙◌}
use Rattle.rtl_mixed_reasons.specs.Reasons.{first_in, told_alone}
use Rattle.rtl_mixed_reasons.proofs.Searches.{found, passed, ended}
use Rattle.rtl_mixed_reasons.proofs.body.first_alone.Goals as goal

pub returns-in-Some : goal.returns-in-Some
returns-in-Some c =
    let l = c.loop-statement in
    let f = told_alone c.args.wide c.args.sought in
    found f (first_in f) (first_in f) c.args.statements.now l.statement-index (λ x rest. refl) c.statement-item.result _ _ c.loop-statement-test.true c.statement-item.is l.invariant
    (sym c.told_alone.ensures ∙ c.in-Some.is)

pub loop-statement-preserved : goal.loop-statement-preserved
loop-statement-preserved c =
    let l = c.loop-statement in
    let f = told_alone c.args.wide c.args.sought in
    passed f (first_in f) (first_in f) c.args.statements.now l.statement-index (λ x rest. refl) c.statement-item.result _ c.loop-statement-test.true c.statement-item.is l.invariant
    (sym c.told_alone.ensures ∙ c.in_default.is)

pub returns : goal.returns
returns c = ended (first_in (told_alone c.args.wide c.args.sought)) c.args.statements.now c.loop-statement.statement-index _ c.loop-statement-test.false refl c.loop-statement.invariant
