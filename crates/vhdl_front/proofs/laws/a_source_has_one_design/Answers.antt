use Rattle.vhdl_front.proofs.Once.{one_design, one_net}
use Rattle.vhdl_front.proofs.laws.a_source_has_one_design.Goals as goal

pub returns : goal.returns
returns c = record { design = one_design; net = one_net }
