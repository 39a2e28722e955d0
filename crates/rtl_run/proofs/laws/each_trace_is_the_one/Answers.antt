use Rattle.rtl_run.proofs.laws.each_trace_is_the_one.Goals as goal
use Rattle.rtl_run.proofs.levels.Alike as alike

pub returns : goal.returns
returns c = alike.each_trace_is_the_one c.nets_meet_the_laws.ensures c.one_machine_run.ensures
