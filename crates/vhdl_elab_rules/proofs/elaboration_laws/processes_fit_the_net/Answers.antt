use Rattle.vhdl_elab_rules.proofs.laws.Processes.{each-process-fits}
use Rattle.vhdl_elab_rules.proofs.elaboration_laws.processes_fit_the_net.Goals as goal

pub returns : goal.returns
returns c = each-process-fits
