use Rattle.byte_streams.proofs.Writing.{Goes-append}
use Rattle.rtl_progress.proofs.progress.show.Goals as goal

pub returns : goal.returns
returns g c = Goes-append _ _ _ _ _ c.push_text.ensures (Goes-append _ _ _ _ _ c.push_number.ensures c.push_text-2.ensures)
