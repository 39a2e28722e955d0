use Rattle.vhdl_front.proofs.Layers.{refusal_lies}
use Rattle.vhdl_front.proofs.laws.refusals_lie_in_their_sources.Goals as goal

pub returns : goal.returns
returns c = refusal_lies
