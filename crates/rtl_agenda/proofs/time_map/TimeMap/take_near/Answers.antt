use Rattle.std.proofs.Common.{arith}
use Rattle.rtl_agenda.specs.MapState.{waiting_of}
use Rattle.rtl_agenda.proofs.InOrder.{far_from_first}
use Rattle.rtl_agenda.proofs.time_map.TimeMap.take_near.Goals as goal

pub returns-then-saturating_sub-turn-clause-far : goal.returns-then-saturating_sub-turn-clause-far
returns-then-saturating_sub-turn-clause-far c =
    let s = c.args.self.now in
    let first = c.in_ok-first.ensures.some in
    far_from_first c.in_ok-first.field-0 c.args.from c.args.turn first.0 (waiting_of s.times.entries) first.1 first.2 s.in_order (omega (arith, c.saturating_sub.ensures, c.if-saturating_sub-turn.true))
