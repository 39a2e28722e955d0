use Rattle.byte_streams.proofs.Writing.{Goes-append}
use Rattle.vhdl_hints.proofs.part.push_bounds.Goals as goal

pub returns-else-is_empty : goal.returns-else-is_empty
returns-else-is_empty g c =
    rw (← c.is_empty.ensures, c.if-is_empty.false)
    (Goes-append _ _ _ _ _ (Goes-append _ _ _ _ _ c.push_text-else-is_empty.ensures c.push_words.ensures) c.push_text-else-is_empty-2.ensures)
