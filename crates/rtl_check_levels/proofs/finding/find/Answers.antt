use Rattle.std.proofs.Common.{arith, below_more}
use Rattle.rtl_check_levels.specs.Finding.{IsRanked}
use Rattle.rtl_check_levels.proofs.Growing.{placed_grows, some_within}
use Rattle.rtl_check_levels.proofs.finding.find.Goals as goal

pub loop-q-init : goal.loop-q-init
loop-q-init c =
    let e = c.in_ok-finding.ensures in
    record { sound = e.sound c.args.counting; done = e.none_ready; placed = λ r l. absurd (omega (arith, l)) }

pub loop-q-preserved : goal.loop-q-preserved
loop-q-preserved c =
    let e = c.in_ok-place.ensures in
    let w = c.in_ok-place_waiting.ensures in
    let table = c.args.table.now in
    record {
      sound = w.sound;
      done = w.done;
      placed = below_more (IsRanked table c.place_waiting.new.self) c.loop-q.q
          (λ r l. w.ranked r (placed_grows table c.loop-q.finding c.place.new.self r e.grows (c.loop-q.invariant.placed r l))) (w.ranked c.loop-q.q e.placed);
    }

pub returns-clause-placed : goal.returns-clause-placed
returns-clause-placed c r inside =
    c.loop-q.invariant.placed r (let l = some_within c.args.table.now r inside in let past = c.loop-q-test.false in omega (arith, l, past)) inside
