use Rattle.std.proofs.Common.{sym, ◌∙◌}
use Rattle.rtl_kept_bodies.specs.Steps.{knows}
use Rattle.rtl_kept_bodies.proofs.Knowing.{gives_lost, gives_go, gives_end}
use Rattle.rtl_kept_bodies.proofs.constants.Known.gives_constants.Goals as goal

pub returns-then-not-gives : goal.returns-then-not-gives
returns-then-not-gives c =
    let l = c.loop-statement in
    gives_lost c.args.statements.now l.statement-index c.statement-item.result (knows l.self.elements.items) c.loop-statement-test.true c.statement-item.is _ l.invariant
    (sym c.gives.ensures.is ∙ c.if-not-gives.true)

pub loop-statement-preserved : goal.loop-statement-preserved
loop-statement-preserved c =
    let l = c.loop-statement in
    gives_go c.args.statements.now l.statement-index c.statement-item.result (knows l.self.elements.items) c.loop-statement-test.true c.statement-item.is _ _ l.invariant
    (sym c.gives.ensures.is ∙ c.if-not-gives.false) c.gives.ensures.known

pub returns : goal.returns
returns c = let l = c.loop-statement in gives_end c.args.statements.now l.statement-index _ _ c.loop-statement-test.false l.invariant
