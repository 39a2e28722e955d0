use Rattle.std.proofs.Common.{sym, ◌∙◌}
use Rattle.byte_streams.proofs.Writing.{Goes-append}
use Rattle.rtlsim_commands.proofs.wider.push_file.Goals as goal

pub returns : goal.returns
returns g c = rw (sym c.is_of_one_file.ensures ∙ c.if-is_of_one_file.false) (Goes-append _ _ _ _ _ c.push_text.ensures c.push_text-2.ensures)
