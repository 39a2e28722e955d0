use Rattle.std.proofs.Common.{sym, subst}
use Rattle.rtl_stim_lines.specs.View.{schedule_view, AreVectors}
use Rattle.rtl_stim.proofs.PortLemmas.{are_vectors}
use Rattle.rtl_stim.proofs.Stops.{pairs_in_time}
use Rattle.rtl_stim.proofs.stimulus.Stimulus.of_pairs.Goals as goal

pub read_pairs-requires : goal.read_pairs-requires
read_pairs-requires c = subst AreVectors (sym c.in_ok-inputs.ensures) (are_vectors c.args.net.now c.is_elaborated.ensures)

pub with_initial-requires-clause-in_time : goal.with_initial-requires-clause-in_time
with_initial-requires-clause-in_time c = pairs_in_time (schedule_view c.in_ok-schedule.schedule) _ c.in_ok-schedule.ensures.given
