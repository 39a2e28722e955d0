use Rattle.std.proofs.Common.{◌≡◌, ◌%◌, length, arith, sym, ◌∙◌}
use Rattle.rtl_agenda.specs.Wheel.{entries_of}
use Rattle.rtl_agenda.proofs.Ringing.{first_in_front, least_round, slot_number}
use Rattle.rtl_agenda.proofs.ring.Ring.first_from.Goals as goal

pub returns-in-Some-clause-least : goal.returns-in-Some-clause-least
returns-in-Some-clause-least c =
    let s = c.args.self.now in
    let start : c.slot_of.result ≡ c.args.from % length (entries_of s.slots.items) = slot_number s.slots.items c.args.from c.slot_of.result c.slot_of.ensures in
    first_in_front (entries_of s.slots.items) s.occupied.words.items c.args.from c.in-Some.slot s.ring c.requires (sym (s.ring.occupied c.in-Some.slot) ∙ c.in-Some.ensures.occupied)
    (omega (arith, start, c.in-Some.ensures.from)) (λ k after before. c.in-Some.ensures.first k (omega (arith, start, after)) before)

pub returns-in-None-clause-least : goal.returns-in-None-clause-least
returns-in-None-clause-least c =
    let s = c.args.self.now in
    let start : c.slot_of.result ≡ c.args.from % length (entries_of s.slots.items) = slot_number s.slots.items c.args.from c.slot_of.result c.slot_of.ensures in
    least_round (entries_of s.slots.items) s.occupied.words.items c.args.from c.next_from-in-None.result s.ring c.requires c.next_from-in-None.ensures.occupied c.next_from-in-None.ensures.first
    (λ k after. c.in-None.ensures.none k (omega (arith, start, after)))
