use Rattle.std.proofs.Common.{arith}
use Rattle.rtl_drives.proofs.Places.{place_assigned}
use Rattle.rtl_kernel.specs.drivers.Transactions.{nets_of}
use Rattle.rtl_levels.proofs.Advancing.{still_have_readers}
use Rattle.rtl_levels.proofs.Spanned.{no_span, taking_all, taking_more, taking_none}
use Rattle.rtl_levels.proofs.entries.take_spans.Goals as goal

pub loop-span-init : goal.loop-span-init
loop-span-init c =
    taking_none c.args.schedule.now.readers (nets_of c.args.drives.now) c.args.outcome.now.entries c.assigned-span-items.result.now c.assigned-span-items.ensures.places c.args.state.now

pub take_span-requires-clause-within : goal.take_span-requires-clause-within
take_span-requires-clause-within c = c.assigned-span-items.ensures.within c.loop-span.span-index no_span c.loop-span-test.true

pub take_span-requires-clause-all : goal.take_span-requires-clause-all
take_span-requires-clause-all c = λ k l. place_assigned _ _ c.assigned-span-items.ensures.places c.loop-span.span-index k no_span c.loop-span-test.true l

pub take_span-requires-clause-have_readers : goal.take_span-requires-clause-have_readers
take_span-requires-clause-have_readers c =
    still_have_readers c.args.schedule.now.readers _ c.args.state.now c.loop-span.state c.loop-span.invariant.advances c.requires.have_readers

pub loop-span-preserved : goal.loop-span-preserved
loop-span-preserved c =
    taking_more c.args.schedule.now.readers (nets_of c.args.drives.now) c.args.outcome.now.entries c.assigned-span-items.result.now c.loop-span.span-index no_span c.loop-span-test.true
    c.args.state.now c.loop-span.state c.take_span.new.state c.loop-span.invariant c.take_span.ensures

pub returns : goal.returns
returns c =
    taking_all c.args.schedule.now.readers (nets_of c.args.drives.now) c.args.outcome.now.entries c.assigned-span-items.result.now c.loop-span.span-index
    (omega (arith, c.loop-span-test.false)) c.args.state.now c.loop-span.state c.loop-span.invariant
