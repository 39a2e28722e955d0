use Rattle.byte_streams.proofs.Writing.{Goes-append}
use Rattle.rtlsim_command_faults.proofs.lines.push_moments.Goals as goal

pub returns : goal.returns
returns g c =
    let number = rw c.from.ensures at c.push_number.ensures in
    Goes-append _ _ _ _ _ (Goes-append _ _ _ _ _ (Goes-append _ _ _ _ _ c.push_counted.ensures c.push_text.ensures) number) c.push_text-2.ensures
