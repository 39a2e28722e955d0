use Rattle.std.proofs.Common.{◌∙◌}
use Rattle.std.proofs.lemmas.List.{length-map}
use Rattle.rtl_agenda.specs.Wheel.{entries_of, entry_of}
use Rattle.rtl_agenda.proofs.Ringing.{ring_none}
use Rattle.rtl_agenda.proofs.ring.Ring.new.Goals as goal

pub invariant_of-result : goal.invariant_of-result
invariant_of-result c =
    let slots = c.in_ok-empty_slots.field-0.items in
    record {
      ring = ring_none (entries_of slots) c.in_ok-new.field-0.words.items c.args.count c.requires.some c.requires.bounded (length-map slots entry_of ∙ c.in_ok-empty_slots.ensures.count) c.in_ok-new.ensures.all
          c.in_ok-new.ensures.none c.in_ok-empty_slots.ensures.empty;
    }
