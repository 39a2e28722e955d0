use Rattle.byte_streams.proofs.Writing.{Goes-append}
use Rattle.byte_streams.proofs.texts.push_line.Goals as goal

pub returns : goal.returns
returns g c = Goes-append _ _ _ _ _ c.push_text.ensures c.push_text-2.ensures
