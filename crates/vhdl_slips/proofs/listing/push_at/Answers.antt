use Rattle.byte_streams.proofs.Writing.{Goes-append}
use Rattle.vhdl_slips.proofs.listing.push_at.Goals as goal

pub returns-in-Some : goal.returns-in-Some
returns-in-Some g c others end p =
    let named = rw c.separator.ensures at c.push_text.ensures in
    let name = rw c.text_of.ensures at c.push_text-in-Some.ensures in
    rw (← c.name_at.ensures, c.in-Some.is) (Goes-append _ _ _ _ _ (Goes-append _ _ _ _ _ named name) p)

pub returns-in-None : goal.returns-in-None
returns-in-None g c others end p = rw (← c.name_at.ensures, c.in-None.is) p
