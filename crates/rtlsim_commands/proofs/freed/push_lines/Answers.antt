use Rattle.byte_streams.proofs.Writing.{Goes-append}
use Rattle.rtlsim_commands.proofs.freed.push_lines.Goals as goal

pub returns : goal.returns
returns g c = Goes-append _ _ _ _ _ (Goes-append _ _ _ _ _ c.push_line.ensures c.push_line-2.ensures) c.push_line-3.ensures
