use Rattle.std.proofs.Common.{sym, subst}
use Rattle.rtl_stim_lines.specs.View.{inputs_view, schedule_view, AreVectors}
use Rattle.rtl_stim.proofs.PortLemmas.{are_vectors}
use Rattle.rtl_stim.proofs.Stops.{stops_in_time}
use Rattle.rtl_stim.proofs.stimulus.Stimulus.read.Goals as goal

pub read_schedule-requires : goal.read_schedule-requires
read_schedule-requires c = subst AreVectors (sym c.in_ok-inputs.ensures) (are_vectors c.args.net.now c.is_elaborated.ensures)

pub with_initial-requires-clause-in_time : goal.with_initial-requires-clause-in_time
with_initial-requires-clause-in_time c = stops_in_time (inputs_view c.in_ok-inputs.inputs) c.args.text.now (schedule_view c.in_ok-schedule.schedule) c.in_ok-schedule.ensures.given
