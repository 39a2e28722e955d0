use Rattle.rtl_model.proofs.simulation.OneReport.{one_report}
use Rattle.rtl_model.proofs.simulation_laws.one_report.Goals as goal

pub returns : goal.returns
returns c = one_report
