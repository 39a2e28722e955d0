use Rattle.std.proofs.Common.{◌∙◌, ap}
use Rattle.byte_streams.proofs.Writing.{Goes-append}
use Rattle.rtlsim_refusals.specs.Places.{position_behind}
use Rattle.rtlsim_refusals.proofs.place.push_position.Goals as goal

pub returns : goal.returns
returns g c =
    let position = c.position_behind-position.ensures ∙ ap position_behind c.halves.ensures.before in
    let line = rw position at c.push_number.ensures in
    let column = rw position at c.push_number-2.ensures in
    Goes-append _ _ _ _ _
    (Goes-append _ _ _ _ _
    (Goes-append _ _ _ _ _ (Goes-append _ _ _ _ _ (Goes-append _ _ _ _ _ c.push_text.ensures c.push_text-2.ensures) line) c.push_text-3.ensures)
    column)
    c.push_text-4.ensures
