use Rattle.rtl_model.proofs.nets.Headline.{each_simulates_the_machine}
use Rattle.rtl_model.proofs.net_laws.simulates_the_machine.Goals as goal

pub returns : goal.returns
returns c = each_simulates_the_machine
