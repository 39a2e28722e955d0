use Rattle.std.proofs.Common.{sym, ◌∙◌}
use Rattle.vhdl_parser_rules.specs.Expected.{said_of}
use Rattle.vhdl_expected.specs.Reading.{reading_of}
use Rattle.vhdl_expected.specs.Told.{rows_of, tried_in}
use Rattle.vhdl_expected.proofs.Trials.{some_among, none_among}
use Rattle.vhdl_expected.proofs.trial.first_among.Goals as goal

pub returns-then-is_some : goal.returns-then-is_some
returns-then-is_some c =
    let r = reading_of c.args.reading in
    c.loop-left.invariant _ (
    some_among r said_of c.in_ok-said.said (tried_in r) rows_of _ c.loop-left.left.now c.in-len1-up.len_at_least (sym c.is_some.ensures ∙ c.if-is_some.true)
    c.in_ok-said.ensures
    )

pub loop-left-preserved : goal.loop-left-preserved
loop-left-preserved c =
    let r = reading_of c.args.reading in
    λ said h. c.loop-left.invariant said (
    none_among r said_of c.in_ok-said.said (tried_in r) rows_of _ c.loop-left.left.now said c.in-len1-up.len_at_least
    (sym c.is_some.ensures ∙ c.if-is_some.false) c.in_ok-said.ensures h
    )
