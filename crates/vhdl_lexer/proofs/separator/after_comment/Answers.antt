use Rattle.vhdl_lexer.proofs.Skip.{star_skipped, star_open}
use Rattle.vhdl_lexer.proofs.separator.after_comment.Goals as goal

pub returns-in_default-from_close-clause-left_open : goal.returns-in_default-from_close-clause-left_open
returns-in_default-from_close-clause-left_open c =
    λ opened. star_open opened c.args.text.now _ c.in-len1-up.len_at_least c.from_close.ensures.value c.in_default-from_close.len_below

pub returns-clause-closed : goal.returns-clause-closed
returns-clause-closed c =
    λ opened. star_skipped opened c.args.text.now _ c.in-len1-up.len_at_least c.from_close.ensures.value c.in-len2-up.len_at_least
