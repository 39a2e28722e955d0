use Rattle.rtl_model.proofs.simulation.OneReport.{one_net_report}
use Rattle.rtl_model.proofs.simulation_laws.one_net_report.Goals as goal

pub returns : goal.returns
returns c = one_net_report
