use Rattle.std.proofs.Common.{◌++◌, List, Option, flat_map, option_map, sym, subst, ◌∙◌}
use Rattle.std.proofs.lemmas.Result.{IfOk-weaker}
use Rattle.vhdl_parser_rules.specs.Expected.{Texts, said_of}
use Rattle.vhdl_expected.specs.Reading.{reading_of}
use Rattle.vhdl_expected.specs.Told.{Finds, Row, missing, named, tried_in}
use Rattle.vhdl_expected.proofs.Trials.{some_first, none_first}
use Rattle.vhdl_expected.proofs.telling.lacking.Goals as goal

pub returns-then-is_some : goal.returns-then-is_some
returns-then-is_some c =
    let r = reading_of c.args.reading in
    some_first r said_of c.in_ok-said.said (missing r) (named r) (sym c.is_some.ensures ∙ c.if-is_some.true)
    (subst (λ (tables : List (List Row)). Finds r (flat_map (tried_in r) tables) (option_map said_of c.in_ok-said.said)) c.missing.ensures c.in_ok-said.ensures)

pub returns : goal.returns
returns c =
    let r = reading_of c.args.reading in
    IfOk-weaker c.named.result
    (λ (said : Option Texts). Finds r (named r) (option_map said_of said))
    (λ (said : Option Texts). Finds r (missing r ++ named r) (option_map said_of said))
    (λ said h. none_first r said_of c.in_ok-said.said (missing r) (named r) (option_map said_of said) (sym c.is_some.ensures ∙ c.if-is_some.false)
    (subst (λ (tables : List (List Row)). Finds r (flat_map (tried_in r) tables) (option_map said_of c.in_ok-said.said)) c.missing.ensures c.in_ok-said.ensures)
    h)
    c.named.ensures
