use Rattle.byte_streams.proofs.Writing.{Goes-append}
use Rattle.rtlsim_command_faults.proofs.comparing.push_unnamed.Goals as goal

pub returns : goal.returns
returns g c =
    let place = Goes-append _ _ _ _ _ (Goes-append _ _ _ _ _ (Goes-append _ _ _ _ _ c.push_text.ensures c.push_text-2.ensures) c.push_number.ensures) c.push_text-3.ensures in
    let sentence = rw (c.as_bytes.ensures.value, c.words.ensures.middle) at c.push_text-5.ensures in
    let rule = Goes-append _ _ _ _ _ (Goes-append _ _ _ _ _ (Goes-append _ _ _ _ _ place c.push_rule_words.ensures) c.push_text-4.ensures) sentence in
    Goes-append _ _ _ _ _ (Goes-append _ _ _ _ _ (Goes-append _ _ _ _ _ rule c.push_text-6.ensures) c.push_text-7.ensures) c.push_text-8.ensures
