use Rattle.rtl_model.proofs.simulation.Report.{reports_lead_down}
use Rattle.rtl_model.proofs.simulation_laws.reports_lead_down.Goals as goal

pub returns : goal.returns
returns c = reports_lead_down
