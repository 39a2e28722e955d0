use Rattle.rtl_eval.proofs.Edged.{rising, falling, to_1, to_0}
use Rattle.rtl_eval.proofs.tests.is_edge.Goals as goal

pub returns-in-Rising : goal.returns-in-Rising
returns-in-Rising c = rising c.args.before c.args.now c.ranges.before.fits c.ranges.now.fits c.args.kind c.in-Rising.is

pub returns-in-Falling : goal.returns-in-Falling
returns-in-Falling c = falling c.args.before c.args.now c.ranges.before.fits c.ranges.now.fits c.args.kind c.in-Falling.is

pub returns-in-To1 : goal.returns-in-To1
returns-in-To1 c = to_1 c.args.before c.args.now c.ranges.before.fits c.ranges.now.fits c.args.kind c.in-To1.is

pub returns-in-To0 : goal.returns-in-To0
returns-in-To0 c = to_0 c.args.before c.args.now c.ranges.before.fits c.ranges.now.fits c.args.kind c.in-To0.is
