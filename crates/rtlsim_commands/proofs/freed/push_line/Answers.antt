use Rattle.std.proofs.Common.{sym, ◌∙◌}
use Rattle.byte_streams.proofs.Writing.{Goes-append}
use Rattle.rtlsim_commands.proofs.freed.push_line.Goals as goal

pub returns : goal.returns
returns g c =
    rw (sym c.is_freed.ensures ∙ c.if-not-is_freed.false)
    (Goes-append _ _ _ _ _ (Goes-append _ _ _ _ _ c.push_text.ensures c.push_number.ensures) c.push_text-2.ensures)
