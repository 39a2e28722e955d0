use Rattle.std.proofs.Common.{sym, ◌∙◌}
use Rattle.vhdl_expected.specs.Reading.{reading_of}
use Rattle.vhdl_expected.proofs.Walks.{identifier}
use Rattle.vhdl_expected.proofs.Within.{first_is_part, within_drop}
use Rattle.vhdl_expected.proofs.respelling.respelt_at.Goals as goal

pub respelt_token-requires-clause-token : goal.respelt_token-requires-clause-token
respelt_token-requires-clause-token c =
    first_is_part c.args.reading.source.now _ c.split_at.result.1.now c.in-len1-up.len_at_least
    (rw c.split_at.ensures.back (within_drop c.args.reading.source.now c.args.place c.args.reading.tokens.now c.requires.within))

pub returns : goal.returns
returns c =
    rw (← c.split_at.ensures.back) (
    rw (identifier (reading_of c.args.reading) c.args.place c.split_at.result.1.now _ c.in-len1-up.len_at_least (sym c.is_identifier.ensures ∙ c.if-not-is_identifier.false))
    c.respelt_token.ensures
    )
