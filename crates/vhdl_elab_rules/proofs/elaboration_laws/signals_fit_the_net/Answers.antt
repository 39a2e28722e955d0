use Rattle.vhdl_elab_rules.proofs.laws.Signals.{each-signal-fits, each-variable-fits}
use Rattle.vhdl_elab_rules.proofs.elaboration_laws.signals_fit_the_net.Goals as goal

pub returns-clause-signals : goal.returns-clause-signals
returns-clause-signals c = each-signal-fits

pub returns-clause-variables : goal.returns-clause-variables
returns-clause-variables c = each-variable-fits
