use Rattle.rtl_agenda.specs.MapState.{state_of, waiting_of}
use Rattle.rtl_agenda.proofs.Ordering.{orderly_pushed}
use Rattle.rtl_agenda.proofs.map_agenda.MapAgendaAgenda.push.Goals as goal

pub invariant_of-self : goal.invariant_of-self
invariant_of-self c =
    let s = c.args.self.now in
    record {
      orderly = orderly_pushed (state_of s.waiting.times s.last s.taken) c.args.time c.args.change (waiting_of c.push.new.self.times.entries) c.push.result s.orderly c.requires.later c.requires.once
          c.push.ensures.ok c.push.ensures.refused;
    }
