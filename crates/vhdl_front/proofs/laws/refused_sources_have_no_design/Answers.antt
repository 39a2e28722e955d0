use Rattle.vhdl_front.proofs.Once.{refused}
use Rattle.vhdl_front.proofs.laws.refused_sources_have_no_design.Goals as goal

pub returns : goal.returns
returns c = refused
