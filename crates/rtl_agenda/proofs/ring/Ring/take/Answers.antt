use Rattle.std.proofs.Common.{ℕ, ◌≡◌, List, [], ap, set, sym, ◌∙◌}
use Rattle.std.specs.Global.{Vec}
use Rattle.rtl_agenda.specs.Agenda.{Change}
use Rattle.rtl_agenda.specs.Wheel.{entries_of, entry_of}
use Rattle.rtl_agenda.specs.declared.slot.Slot.{Slot}
use Rattle.rtl_agenda.proofs.Ringing.{entry_read, entry_written, ring_written}
use Rattle.rtl_agenda.proofs.ring.Ring.take.Goals as goal

-- a slot whose changes are replaced by none
emptied : (time : ℕ) (changes none : Vec Change) → changes ≡ none → none.items ≡ [] → entry_of (record { time = time; changes = changes }) ≡ (time, [])
emptied time changes none is empty = ap (λ (v : Vec Change). (time, v.items)) is ∙ ap (λ (cs : List Change). (time, cs)) empty

pub invariant_of-self : goal.invariant_of-self
invariant_of-self c =
    let s = c.args.self.now in
    let time = c.index_mut.result.now.time in
    let slot : Slot = record { time = time; changes = c.replace-changes.new.dest } in
    record {
      ring = ring_written s.slots.items s.occupied.words.items c.set.new.self.words.items c.args.slot slot (time, []) s.ring c.requires
          (emptied time c.replace-changes.new.dest c.new.result c.replace-changes.ensures.after c.new.ensures.items) (λ none. absurd (cc)) c.set.ensures.at c.set.ensures.others c.set.ensures.all;
    }

pub returns-clause-rest : goal.returns-clause-rest
returns-clause-rest c =
    let s = c.args.self.now in
    let time = c.index_mut.result.now.time in
    let slot : Slot = record { time = time; changes = c.replace-changes.new.dest } in
    entry_written s.slots.items c.args.slot slot (time, []) (emptied time c.replace-changes.new.dest c.new.result c.replace-changes.ensures.after c.new.ensures.items)
    ∙ ap (λ (e : ℕ × List Change). set (entries_of s.slots.items) c.args.slot (e.0, [])) (sym (entry_read s.slots.items c.args.slot c.index_mut.result.now c.requires c.index_mut.ensures.value))
