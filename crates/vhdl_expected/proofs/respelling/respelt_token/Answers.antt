use Rattle.std.proofs.Common.{List, Option, flat_map, map, option_map, subst}
use Rattle.std.proofs.lemmas.Result.{IfOk-weaker}
use Rattle.vhdl_parser_rules.specs.Expected.{Texts, said_of}
use Rattle.vhdl_expected.specs.Reading.{reading_of}
use Rattle.vhdl_expected.specs.Told.{Finds, Word, respelt_in, words, words_of}
use Rattle.vhdl_expected.proofs.respelling.respelt_token.Goals as goal

pub returns : goal.returns
returns c =
    let r = reading_of c.args.reading in
    let found = respelt_in r c.args.place c.args.token in
    IfOk-weaker c.respelt_among.result
    (λ (said : Option Texts). Finds r (flat_map found (map words_of c.words.result)) (option_map said_of said))
    (λ (said : Option Texts). Finds r (flat_map found words) (option_map said_of said))
    (λ said h. subst (λ (tables : List (List Word)). Finds r (flat_map found tables) (option_map said_of said)) c.words.ensures h)
    c.respelt_among.ensures
