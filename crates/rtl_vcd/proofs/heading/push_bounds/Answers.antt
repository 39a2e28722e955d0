use Rattle.byte_streams.proofs.Writing.{Goes-append}
use Rattle.rtl_vcd.proofs.heading.push_bounds.Goals as goal

pub returns-in-Vector : goal.returns-in-Vector
returns-in-Vector g c =
    rw c.in-Vector.is
    (Goes-append _ _ _ _ _
    (Goes-append _ _ _ _ _ (Goes-append _ _ _ _ _ (Goes-append _ _ _ _ _ c.push_text.ensures c.push_number.ensures) c.push_text-in-Vector.ensures) c.push_number-in-Vector.ensures)
    c.push_text-in-Vector-2.ensures)
