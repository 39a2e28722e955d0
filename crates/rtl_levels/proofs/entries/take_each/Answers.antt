use Rattle.std.proofs.Common.{arith, length}
use Rattle.rtl_levels.proofs.Advancing.{still_together}
use Rattle.rtl_levels.proofs.Spanned.{no_span, span_taken, span_together, taking_all, taking_more, taking_none}
use Rattle.rtl_levels.proofs.entries.take_each.Goals as goal

pub loop-span-init : goal.loop-span-init
loop-span-init c = taking_none c.args.readers.now _ c.args.outcome.now.entries c.assigned-span-items.result.now c.assigned-span-items.ensures.places c.args.state.now

pub values-assigned-requires : goal.values-assigned-requires
values-assigned-requires c = c.assigned-span-items.ensures.within c.loop-span.span-index no_span c.loop-span-test.true

pub set_run-requires : goal.set_run-requires
set_run-requires c =
    let entries = c.args.outcome.now.entries in
    span_together c.args.readers.now c.args.first entries c.assigned-span-items.result.now c.assigned-span-items.ensures.within c.loop-span.span-index no_span c.loop-span-test.true
    c.values-assigned.result.now c.values-assigned.ensures.as_many c.loop-span.state
    (still_together c.args.readers.now _ c.args.state.now c.loop-span.state c.loop-span.invariant.advances c.args.first (length entries) c.requires)

pub loop-span-preserved : goal.loop-span-preserved
loop-span-preserved c =
    let spans = c.assigned-span-items.result.now in
    let i = c.loop-span.span-index in
    taking_more c.args.readers.now _ c.args.outcome.now.entries spans i no_span c.loop-span-test.true c.args.state.now c.loop-span.state c.set_run.new.self c.loop-span.invariant
    (span_taken c.args.readers.now c.args.first c.args.outcome.now.entries spans c.assigned-span-items.ensures.within i no_span c.loop-span-test.true c.values-assigned.result.now
    c.values-assigned.ensures.as_many c.assigned-span-items.ensures.places c.values-assigned.ensures.entries c.loop-span.state c.set_run.new.self c.set_run.ensures)

pub returns : goal.returns
returns c =
    taking_all c.args.readers.now _ c.args.outcome.now.entries c.assigned-span-items.result.now c.loop-span.span-index (omega (arith, c.loop-span-test.false))
    c.args.state.now c.loop-span.state c.loop-span.invariant
