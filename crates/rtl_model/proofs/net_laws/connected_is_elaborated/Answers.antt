use Rattle.rtl_model.proofs.nets.Connected.{connected_is_elaborated}
use Rattle.rtl_model.proofs.net_laws.connected_is_elaborated.Goals as goal

pub returns : goal.returns
returns c = connected_is_elaborated
