use Rattle.rtl_model.proofs.simulation.Shown.{each_run_shows, settles_or_not}
use Rattle.rtl_model.proofs.simulation_laws.one_run_shows.Goals as goal

pub returns-clause-shows : goal.returns-clause-shows
returns-clause-shows c = each_run_shows

pub returns-clause-either : goal.returns-clause-either
returns-clause-either c = settles_or_not
