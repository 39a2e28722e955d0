use Rattle.byte_streams.proofs.Writing.{Goes-append}
use Rattle.vhdl_hints.proofs.part.push_generics.Goals as goal

pub returns-then-has : goal.returns-then-has
returns-then-has g c = rw (← c.has.ensures, c.if-has.true) (Goes-append _ _ _ _ _ c.push_names.ensures c.push_text.ensures)
