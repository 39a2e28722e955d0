use Rattle.rtl_run.proofs.laws.each_run_is_written_alike.Goals as goal
use Rattle.rtl_run.proofs.levels.Alike as alike

pub returns : goal.returns
returns c = alike.each_run_is_written_alike c.each_trace_is_the_one.ensures c.one_bound.ensures
