use Rattle.rtl_expect.proofs.Sorting.{one_more_kept}
use Rattle.rtl_expect.proofs.reading.keep.Goals as goal

pub returns : goal.returns
returns c = one_more_kept c.args.list.now.items _ c.args.expectation c.in_ok-push.ensures.items
