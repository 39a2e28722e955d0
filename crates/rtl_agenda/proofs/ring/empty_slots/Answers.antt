use Rattle.std.proofs.Common.{List, ◌+◌, length, ap, ◌∙◌}
use Rattle.std.proofs.lemmas.List.{length_push}
use Rattle.rtl_agenda.specs.Wheel.{entries_of, is_filled, slot_at}
use Rattle.rtl_agenda.specs.declared.slot.Slot.{Slot}
use Rattle.rtl_agenda.proofs.Ringing.{empty_more}
use Rattle.rtl_agenda.proofs.ring.empty_slots.Goals as goal

pub loop-preserved : goal.loop-preserved
loop-preserved c =
    let slot : Slot = record { time = 0; changes = c.new.result } in
    let e = c.in_ok-push.ensures.items in (
      ap length e ∙ length_push c.loop.slots.items slot ∙ ap (λ n. n + 1) c.loop.invariant.0,
      λ s. ap (λ (xs : List Slot). is_filled (slot_at (entries_of xs) s).1) e ∙ empty_more c.loop.slots.items slot c.new.ensures.items c.loop.invariant.1 s,
    )
