use Rattle.byte_streams.proofs.Writing.{Goes-append}
use Rattle.vhdl_hints.proofs.part.push_blank_and.Goals as goal

pub returns : goal.returns
returns g c =
    let written = rw c.text_of.ensures at c.push_text-2.ensures in
    Goes-append _ _ _ _ _ c.push_text.ensures written
