use Rattle.rtl_levels.proofs.Alike.{each_machine_goes_on_alike}
use Rattle.rtl_levels.proofs.laws.each_machine_goes_on_alike.Goals as goal

pub returns : goal.returns
returns c = each_machine_goes_on_alike
