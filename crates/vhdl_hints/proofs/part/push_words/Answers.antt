use Rattle.byte_streams.proofs.Writing.{Goes-append}
use Rattle.vhdl_hints.proofs.part.push_words.Goals as goal

pub returns-in-Some : goal.returns-in-Some
returns-in-Some g c =
    let written = rw c.text_of.ensures at c.push_text.ensures in
    let behind = rw c.past.ensures at c.push_parted.ensures in
    rw (← c.first_of.ensures, c.in-Some.is) (Goes-append _ _ _ _ _ written behind)

pub returns-in-None : goal.returns-in-None
returns-in-None g c = rw (← c.first_of.ensures, c.in-None.is) c.push_text-in-None.ensures
