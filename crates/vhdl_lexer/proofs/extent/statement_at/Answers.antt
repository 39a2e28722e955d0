use Rattle.vhdl_lexer.specs.Extents.{statement_at}
use Rattle.vhdl_lexer.proofs.extent.statement_at.Goals as goal

pub returns : goal.returns
unfolding statement_at
returns c = rw (← c.beginning.ensures) c.taken_from.ensures
