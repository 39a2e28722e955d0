use Rattle.rtl_agenda.proofs.Maps.{first_entry}
use Rattle.rtl_agenda.proofs.time_map.TimeMap.first.Goals as goal

pub returns-clause-some : goal.returns-clause-some
returns-clause-some c = first_entry c.args.self.now.times.entries c.in_ok-first.first.0.now c.in_ok-first.first.1.now c.in_ok-first.ensures.first
