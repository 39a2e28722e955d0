use Rattle.rtl_model.proofs.simulation.RaceNames.{each_clock_shows_races}
use Rattle.rtl_model.proofs.simulation_laws.clocks_show_races.Goals as goal

pub returns : goal.returns
returns c = each_clock_shows_races
