use Rattle.rtl_agenda.specs.MapState.{state_of}
use Rattle.rtl_agenda.proofs.Ordering.{orderly_taken}
use Rattle.rtl_agenda.proofs.map_agenda.MapAgendaAgenda.next.Goals as goal

pub invariant_of-self-2 : goal.invariant_of-self-2
invariant_of-self-2 c =
    let s = c.args.self.now in
    record {
      orderly = orderly_taken (state_of s.waiting.times s.last s.taken) c.in_ok-time.time c.in_ok-time.changes.items _ s.orderly c.in_ok-time.ensures.first;
    }
