use Rattle.rtl_model.proofs.simulation.Report.{reports_are_shown}
use Rattle.rtl_model.proofs.simulation_laws.reports_are_shown.Goals as goal

pub returns : goal.returns
returns c = reports_are_shown
