use Rattle.std.proofs.Common.{ℕ, ◌-◌, ◌<◌, ◌≤◌, List, Option, length, ap, arith}
use Rattle.std.specs.Prelude.{unwrap_or}
use Rattle.std.proofs.lemmas.List.{length-map}
use Rattle.rtl_agenda.specs.Agenda.{AgendaState, Change}
use Rattle.rtl_agenda.specs.MapState.{waiting_of}
use Rattle.rtl_agenda.specs.Wheel.{entries_of, entry_of}
use Rattle.rtl_agenda.proofs.Ordering.{after_last, on_ok}
use Rattle.rtl_agenda.proofs.Taking.{far_orderly, far_parted, far_pushed, near_orderly, near_parted, near_pushed}
use Rattle.rtl_agenda.proofs.wheel.WheelAgenda.push.Goals as goal

pub invariant_of-self : goal.invariant_of-self
invariant_of-self c =
    let s = c.args.self.now in
    let far = waiting_of s.far.times.entries in
    let slots = entries_of s.near.slots.items in
    let words = s.near.occupied.words.items in
    let new = entries_of c.push.new.self.slots.items in
    let less : c.args.time - unwrap_or s.last 0 < length (entries_of s.near.slots.items) = omega (arith, c.if-time-unwrap_or.true, c.unwrap_or.ensures, c.len.ensures, s.near.slots.ok.0, length-map s.near.slots.items entry_of) in
    let le = after_last s.last c.args.time c.requires.later in
    record {
      parted = near_parted far slots words s.last s.taken.items c.args.time c.args.change c.push.result s.near.ring s.far.in_order s.parted new le less c.push.ensures.ok c.push.ensures.refused;
      orderly = near_orderly far slots words s.last s.taken.items c.args.time c.args.change c.push.result s.near.ring s.far.in_order s.parted new le less c.push.ensures.ok c.push.ensures.refused
          s.orderly c.requires.later c.requires.once;
    }

abbrev state_by : Option ℕ → List Change → List (ℕ × List Change) → AgendaState
state_by last taken waiting = record { waiting = waiting; last = last; taken = taken }

pub returns-then-time-unwrap_or-clause-ok : goal.returns-then-time-unwrap_or-clause-ok
returns-then-time-unwrap_or-clause-ok c =
    let s = c.args.self.now in
    let less : c.args.time - unwrap_or s.last 0 < length (entries_of s.near.slots.items) = omega (arith, c.if-time-unwrap_or.true, c.unwrap_or.ensures, c.len.ensures, s.near.slots.ok.0, length-map s.near.slots.items entry_of) in
    on_ok c.push.result (λ is. ap (λ w. state_by s.last s.taken.items w) is)
    (near_pushed (waiting_of s.far.times.entries) (entries_of s.near.slots.items) s.near.occupied.words.items s.last s.taken.items c.args.time c.args.change c.push.result s.near.ring s.far.in_order s.parted
    (entries_of c.push.new.self.slots.items) (after_last s.last c.args.time c.requires.later) less c.push.ensures.ok)

pub invariant_of-self-2 : goal.invariant_of-self-2
invariant_of-self-2 c =
    let s = c.args.self.now in
    let far = waiting_of s.far.times.entries in
    let slots = entries_of s.near.slots.items in
    let words = s.near.occupied.words.items in
    let new = waiting_of c.push-2.new.self.times.entries in
    let more : length (entries_of s.near.slots.items) ≤ c.args.time - unwrap_or s.last 0 = omega (arith, c.if-time-unwrap_or.false, c.unwrap_or.ensures, c.len.ensures, s.near.slots.ok.0, length-map s.near.slots.items entry_of) in
    record {
      parted = far_parted far slots words s.last s.taken.items c.args.time c.args.change c.push-2.result s.near.ring s.far.in_order s.parted new more c.push-2.ensures.ok c.push-2.ensures.refused;
      orderly = far_orderly far slots words s.last s.taken.items c.args.time c.args.change c.push-2.result s.near.ring s.far.in_order s.parted new more c.push-2.ensures.ok c.push-2.ensures.refused
          s.orderly c.requires.later c.requires.once;
    }

pub returns-clause-ok : goal.returns-clause-ok
returns-clause-ok c =
    let s = c.args.self.now in
    let more : length (entries_of s.near.slots.items) ≤ c.args.time - unwrap_or s.last 0 = omega (arith, c.if-time-unwrap_or.false, c.unwrap_or.ensures, c.len.ensures, s.near.slots.ok.0, length-map s.near.slots.items entry_of) in
    on_ok c.push-2.result (λ is. ap (λ w. state_by s.last s.taken.items w) is)
    (far_pushed (waiting_of s.far.times.entries) (entries_of s.near.slots.items) s.near.occupied.words.items s.last s.taken.items c.args.time c.args.change c.push-2.result s.near.ring s.far.in_order s.parted
    (waiting_of c.push-2.new.self.times.entries) more c.push-2.ensures.ok)
