use Rattle.rtl_levels.proofs.Settling.{each_stays_settled, each_run_settles}
use Rattle.rtl_levels.proofs.laws.each_run_settles.Goals as goal

pub returns-clause-stays : goal.returns-clause-stays
returns-clause-stays c = each_stays_settled

pub returns-clause-settles : goal.returns-clause-settles
returns-clause-settles c = each_run_settles
