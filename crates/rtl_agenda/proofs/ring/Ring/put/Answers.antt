use Rattle.std.proofs.Common.{ap, refl, set, sym, ◌∙◌}
use Rattle.rtl_agenda.specs.Wheel.{entries_of}
use Rattle.rtl_agenda.specs.declared.slot.Slot.{Slot}
use Rattle.rtl_agenda.proofs.Ringing.{entry_written, ring_written, slot_number, slot_within}
use Rattle.rtl_agenda.proofs.ring.Ring.put.Goals as goal

pub invariant_of-self : goal.invariant_of-self
invariant_of-self c =
    let s = c.args.self.now in
    let slot : Slot = record { time = c.args.time; changes = c.args.changes } in
    record {
      ring = ring_written s.slots.items s.occupied.words.items c.set.new.self.words.items c.slot_of-slot.result slot (c.args.time, c.args.changes.items) s.ring
          (slot_within s.slots.items s.occupied.words.items c.args.time c.slot_of-slot.result s.ring c.slot_of-slot.ensures) refl (λ filled. sym c.slot_of-slot.ensures)
          (c.set.ensures.at ∙ sym c.requires) c.set.ensures.others c.set.ensures.all;
    }

pub returns : goal.returns
returns c =
    let s = c.args.self.now in
    let slot : Slot = record { time = c.args.time; changes = c.args.changes } in
    entry_written s.slots.items c.slot_of-slot.result slot (c.args.time, c.args.changes.items) refl
    ∙ ap (λ i. set (entries_of s.slots.items) i (c.args.time, c.args.changes.items)) (slot_number s.slots.items c.args.time c.slot_of-slot.result c.slot_of-slot.ensures)
