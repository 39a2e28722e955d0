use Rattle.std.proofs.Common.{length, sym, ◌∙◌}
use Rattle.std.proofs.lemmas.Result.{IfOk-weaker}
use Rattle.vhdl_expected.specs.Told.{IsExpected, IsTold}
use Rattle.vhdl_parser_rules.specs.Expected.{expected_of}
use Rattle.vhdl_parser_rules.specs.declared.expected.Expected.{Expected}
use Rattle.vhdl_expected.proofs.Expectation.{nothing_expected, something_expected}
use Rattle.vhdl_expected.proofs.Within.{within_text}
use Rattle.vhdl_expected.proofs.telling.expected_at.Goals as goal

pub returns-then-not-is_read : goal.returns-then-not-is_read
returns-then-not-is_read c =
    nothing_expected c.args.language c.args.source.now c.args.tokens.now c.args.at _ _ c.halves_at.ensures.before c.halves_at.ensures.from (sym c.is_read.ensures ∙ c.if-not-is_read.true)

pub told-requires-clause-within : goal.told-requires-clause-within
told-requires-clause-within c =
    rw (c.deref.ensures.value, c.in_ok-tokens.ensures, c.halves_at.ensures.before, c.halves_at.ensures.from)
    (within_text c.args.source.now c.args.at c.args.tokens.now c.requires)

pub returns : goal.returns
returns c =
    IfOk-weaker c.told.result
    (λ (found : Expected). IsTold (record { language = c.args.language; source = c.args.source.now; tokens = c.deref.result.now; refused = length c.halves_at.result.0.now }) (expected_of found))
    (λ (found : Expected). IsExpected c.args.language c.args.source.now c.args.tokens.now c.args.at (expected_of found))
    (λ found h. something_expected c.args.language c.args.source.now c.args.tokens.now c.args.at _ _ c.halves_at.ensures.before c.halves_at.ensures.from
    c.deref.result.now (expected_of found) (c.deref.ensures.value ∙ c.in_ok-tokens.ensures) (sym c.is_read.ensures ∙ c.if-not-is_read.false) h)
    c.told.ensures
