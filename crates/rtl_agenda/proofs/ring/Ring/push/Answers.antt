use Rattle.std.proofs.Common.{ℕ, ◌++◌, ◌∷◌, [], List, sym, subst, ◌∙◌}
use Rattle.rtl_agenda.specs.Agenda.{Change}
use Rattle.rtl_agenda.specs.Wheel.{IsRing, entry_of}
use Rattle.rtl_agenda.proofs.Ordering.{if_err}
use Rattle.rtl_agenda.proofs.Ringing.{change_written, entry_kept, ring_written, slot_within}
use Rattle.rtl_agenda.proofs.Slots.{filled_push}
use Rattle.rtl_agenda.proofs.ring.Ring.push.Goals as goal

pub invariant_of-self : goal.invariant_of-self
invariant_of-self c =
    let s = c.args.self.now in
    let within = slot_within s.slots.items s.occupied.words.items c.args.time c.slot_of-slot.result s.ring c.slot_of-slot.ensures in
    let P : List (ℕ × List Change) → Type 0 = λ es. IsRing es s.occupied.words.items in
    record { ring = subst P (sym (entry_kept s.slots.items c.slot_of-slot.result c.push.new.self c.index_mut.result.now within c.index_mut.ensures.value c.in_err-push.ensures.refused)) s.ring }

pub returns-in_err-push-clause-refused : goal.returns-in_err-push-clause-refused
returns-in_err-push-clause-refused c =
    let s = c.args.self.now in
    let within = slot_within s.slots.items s.occupied.words.items c.args.time c.slot_of-slot.result s.ring c.slot_of-slot.ensures in
    if_err c.from_residual.result (entry_kept s.slots.items c.slot_of-slot.result c.push.new.self c.index_mut.result.now within c.index_mut.ensures.value c.in_err-push.ensures.refused)

pub invariant_of-self-2 : goal.invariant_of-self-2
invariant_of-self-2 c =
    let s = c.args.self.now in
    let old = (entry_of c.index_mut.result.now).1 in
    record {
      ring = ring_written s.slots.items s.occupied.words.items c.set.new.self.words.items c.slot_of-slot.result c.push.new.self (c.args.time, old ++ c.args.change ∷ []) s.ring
          (slot_within s.slots.items s.occupied.words.items c.args.time c.slot_of-slot.result s.ring c.slot_of-slot.ensures) c.in_ok-push.ensures.ok (λ filled. sym c.slot_of-slot.ensures)
          (c.set.ensures.at ∙ sym (filled_push old c.args.change)) c.set.ensures.others c.set.ensures.all;
    }

pub returns-clause-ok : goal.returns-clause-ok
returns-clause-ok c =
    let s = c.args.self.now in
    change_written s.slots.items s.occupied.words.items c.args.time c.slot_of-slot.result c.push.new.self c.index_mut.result.now c.args.change s.ring c.slot_of-slot.ensures c.index_mut.ensures.value c.in_ok-push.ensures.ok
