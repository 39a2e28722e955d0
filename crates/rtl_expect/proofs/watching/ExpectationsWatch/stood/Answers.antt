use Rattle.std.proofs.Common.{◌<◌, Some, sym}
use Rattle.rtl_expect.proofs.Seeing.{passes_on, sees_more}
use Rattle.rtl_expect.proofs.watching.ExpectationsWatch.stood.Goals as goal

pub loop-self-preserved : goal.loop-self-preserved
loop-self-preserved c =
    passes_on (λ e. e.time < c.args.until) c.args.self.now c.loop-self.self c.compare.new.self (Some c.args.values.now) c.loop-self.invariant
    c.compare.ensures.list c.compare.ensures.next c.compare.ensures.kept c.args.until (λ e early. early) c.loop-self-test.ensures

pub returns : goal.returns
returns c = sees_more c.args.self.now c.loop-self.self c.args.values.now c.args.until c.loop-self.invariant (sym c.loop-self-test.ensures)
