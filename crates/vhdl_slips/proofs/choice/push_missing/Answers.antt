use Rattle.byte_streams.proofs.Writing.{Goes-append}
use Rattle.vhdl_slips.proofs.choice.push_missing.Goals as goal

pub returns-in-Some : goal.returns-in-Some
returns-in-Some g c =
    rw (← c.missing.ensures, c.in-Some.is) (Goes-append _ _ _ _ _ (Goes-append _ _ _ _ _ c.push_text.ensures c.push_text-in-Some.ensures) c.push_text-in-Some-2.ensures)
