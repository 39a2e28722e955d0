use Rattle.byte_streams.proofs.Writing.{Goes-append}
use Rattle.rtlsim_refusals.proofs.stimulus.push_rest.Goals as goal

pub returns : goal.returns
returns g c =
    let help = rw (c.as_bytes.ensures.value, c.words.ensures.help) at c.push_help.ensures in
    Goes-append _ _ _ _ _ (Goes-append _ _ _ _ _ (Goes-append _ _ _ _ _ c.push_text.ensures c.push_shown.ensures) c.push_first.ensures) help
