use Rattle.byte_streams.proofs.Writing.{Goes-append}
use Rattle.rtlsim_command_faults.proofs.lines.push_rule.Goals as goal

pub returns : goal.returns
returns g c = Goes-append _ _ _ _ _ c.push_text.ensures c.push_rule_words.ensures
