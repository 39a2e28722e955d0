use Rattle.byte_streams.proofs.Writing.{Goes-append}
use Rattle.rtl_lost_integers.proofs.telling.push_lost.Goals as goal

pub returns : goal.returns
returns g c =
    Goes-append _ _ _ _ _ (Goes-append _ _ _ _ _ (Goes-append _ _ _ _ _ (Goes-append _ _ _ _ _ (Goes-append _ _ _ _ _ c.push_text.ensures c.push_text-2.ensures) c.push_number.ensures) c.push_text-3.ensures)
    c.push_signal.ensures) c.push_text-4.ensures
