use Rattle.byte_streams.proofs.Writing.{Goes-append}
use Rattle.rtlsim_commands.proofs.wider.push_further.Goals as goal

pub returns : goal.returns
returns g c =
    let number = rw c.line_of.ensures at c.push_number.ensures in
    Goes-append _ _ _ _ _ (Goes-append _ _ _ _ _ (Goes-append _ _ _ _ _ c.push_text.ensures number) c.push_file.ensures) c.push_text-2.ensures
