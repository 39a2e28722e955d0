use Rattle.std.proofs.Common.{◌<◌, arith, length}
use Rattle.std.specs.List.{range_with_len}
use Rattle.rtl_levels.proofs.Spanned.{no_span, span_taken, span_together, taking_all, taking_more, taking_none}
use Rattle.rtl_levels.proofs.entries.take_whole.Goals as goal

pub values-assigned-requires : goal.values-assigned-requires
values-assigned-requires c = c.assigned-spans.ensures.within 0 no_span (omega (arith, c.if-spans-eq1.true))

pub set_short-requires : goal.set_short-requires
set_short-requires c =
    span_together c.args.readers.now c.args.first c.args.outcome.now.entries c.assigned-spans.result.now c.assigned-spans.ensures.within 0 no_span (omega (arith, c.if-spans-eq1.true))
    c.values-assigned.result.now c.values-assigned.ensures.as_many c.args.state.now c.requires

pub returns-then-spans-eq1 : goal.returns-then-spans-eq1
returns-then-spans-eq1 c =
    let readers = c.args.readers.now in
    let entries = c.args.outcome.now.entries in
    let run = range_with_len c.args.first (length entries) in
    let spans = c.assigned-spans.result.now in
    let E = c.assigned-spans.ensures in
    let V = c.values-assigned.ensures in
    let old = c.args.state.now in
    let new = c.set_short.new.self in
    let l : 0 < length spans = omega (arith, c.if-spans-eq1.true) in
    taking_all readers run entries spans 1 (omega (arith, c.if-spans-eq1.true)) old new
    (taking_more readers run entries spans 0 no_span l old old new (taking_none readers run entries spans E.places old)
    (span_taken readers c.args.first entries spans E.within 0 no_span l c.values-assigned.result.now V.as_many E.places V.entries old new c.set_short.ensures))
