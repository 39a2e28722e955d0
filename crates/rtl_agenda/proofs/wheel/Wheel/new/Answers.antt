use Rattle.std.proofs.Common.{ℕ, List, [], None, ap, ◌∙◌}
use Rattle.rtl_agenda.specs.Agenda.{AgendaState, Change}
use Rattle.rtl_agenda.specs.MapState.{waiting_of}
use Rattle.rtl_agenda.specs.Wheel.{entries_of, waiting_in}
use Rattle.rtl_agenda.proofs.Ordering.{orderly_none, orderly_same}
use Rattle.rtl_agenda.proofs.Ringing.{parted_none}
use Rattle.rtl_agenda.proofs.Slots.{waiting_none}
use Rattle.rtl_agenda.proofs.wheel.Wheel.new.Goals as goal

pub invariant_of-result : goal.invariant_of-result
invariant_of-result c =
    let far = waiting_of c.new-2.result.times.entries in
    let slots = entries_of c.in_ok-new.field-0.slots.items in
    record {
      parted = parted_none far slots 0 c.new-2.ensures c.in_ok-new.ensures;
      orderly = orderly_same None [] c.new-3.result.items [] (waiting_in far slots) (waiting_none far slots c.in_ok-new.ensures ∙ c.new-2.ensures) c.new-3.ensures.items (orderly_none None);
    }

abbrev state_none : List Change → List (ℕ × List Change) → AgendaState
state_none taken waiting = record { waiting = waiting; last = None; taken = taken }

pub returns : goal.returns
returns c =
    let far = waiting_of c.new-2.result.times.entries in
    let slots = entries_of c.in_ok-new.field-0.slots.items in
    ap (λ w. state_none c.new-3.result.items w) (waiting_none far slots c.in_ok-new.ensures ∙ c.new-2.ensures) ∙ ap (λ ts. state_none ts []) c.new-3.ensures.items
