use Rattle.std.proofs.Common.{ℕ, List, ◌∷◌, ap, sym, ◌∙◌}
use Rattle.rtl_agenda.specs.Agenda.{Change}
use Rattle.rtl_agenda.specs.MapState.{waiting_of}
use Rattle.rtl_agenda.specs.Wheel.{entries_of, turned_to, waiting_in}
use Rattle.rtl_agenda.proofs.Ordering.{orderly_taken}
use Rattle.rtl_agenda.proofs.wheel.WheelAgenda.next.Goals as goal

pub invariant_of-self-2 : goal.invariant_of-self-2
invariant_of-self-2 c =
    let s = c.args.self.now in
    let time = c.in_ok-time.time in
    let changes = c.take_least.new.taken.items in
    record {
      parted = c.draw_near.ensures.parted;
      orderly = orderly_taken (turned_to (waiting_of s.far.times.entries) (entries_of s.near.slots.items) s.last s.taken.items) time changes
          (waiting_in (waiting_of c.draw_near.new.far.times.entries) (entries_of c.draw_near.new.near.slots.items)) s.orderly
          (c.in_ok-time.ensures.least ∙ ap (λ (w : List (ℕ × List Change)). (time, changes) ∷ w) (sym c.draw_near.ensures.waiting));
    }
