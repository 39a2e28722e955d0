use Rattle.vhdl_elab_rules.proofs.laws.Sources.{sources-are-listed, idle-ports-are-listed}
use Rattle.vhdl_elab_rules.proofs.elaboration_laws.sources_are_listed.Goals as goal

pub returns-clause-drivers : goal.returns-clause-drivers
returns-clause-drivers c = sources-are-listed

pub returns-clause-idle : goal.returns-clause-idle
returns-clause-idle c = idle-ports-are-listed
