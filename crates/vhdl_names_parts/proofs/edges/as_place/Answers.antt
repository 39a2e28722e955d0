use Rattle.vhdl_names_parts.proofs.Meant.{no_signal}
use Rattle.vhdl_names_parts.proofs.edges.as_place.Goals as goal

pub returns-in-Err-clause-other : goal.returns-in-Err-clause-other
returns-in-Err-clause-other c = no_signal c.args.vector (rw (c.in-Err.is) at c.into_signal.ensures.other)
