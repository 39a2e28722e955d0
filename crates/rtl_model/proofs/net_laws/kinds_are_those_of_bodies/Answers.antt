use Rattle.rtl_model.proofs.nets.Processes.{each_kind_is_of_body}
use Rattle.rtl_model.proofs.net_laws.kinds_are_those_of_bodies.Goals as goal

pub returns : goal.returns
returns c = each_kind_is_of_body
