use Rattle.byte_streams.proofs.Writing.{Goes-append}
use Rattle.rtlsim_command_faults.proofs.lines.push_rule_words.Goals as goal

pub returns : goal.returns
returns g c =
    let layer = rw (c.as_bytes.ensures.value, c.words-words.ensures.layer) at c.push_text.ensures in
    let number = rw (c.from.ensures, c.words-words.ensures.number) at c.push_number.ensures in
    let name = rw (c.as_bytes-2.ensures.value, c.words-words.ensures.name) at c.push_text-4.ensures in
    Goes-append _ _ _ _ _ (Goes-append _ _ _ _ _ (Goes-append _ _ _ _ _ (Goes-append _ _ _ _ _ layer c.push_text-2.ensures) number) c.push_text-3.ensures) name
