use Rattle.rtl_check_levels.proofs.Growing.{released_placed, released_less}
use Rattle.rtl_check_levels.proofs.finding.Finding.place_waiting.Goals as goal

pub loop-last-init : goal.loop-last-init
loop-last-init c = record { sound = c.requires.sound; ranked = λ q r. r }

pub loop-last-preserved : goal.loop-last-preserved
loop-last-preserved c =
    let e = c.in_ok-place_all.ensures in
    let new = c.place_all.new.self in
    record {
      sound = e.sound;
      ranked = λ q r. released_placed c.args.table.now c.loop-last.self c.release.new.self new c.in-Some.last q c.in-Some.ensures.released e.grows e.placed (c.loop-last.invariant.ranked q r);
    }

pub loop-last-smaller : goal.loop-last-smaller
loop-last-smaller c =
    released_less c.args.table.now c.loop-last.self c.release.new.self c.place_all.new.self c.in-Some.last 0 c.in-Some.ensures.released c.in_ok-place_all.ensures.grows

pub returns-clause-ranked : goal.returns-clause-ranked
returns-clause-ranked c =
    let d = rw c.in_default.is at c.release.ensures.done in
    λ q r. rw (d.1, d.2, d.3) (c.loop-last.invariant.ranked q r)
