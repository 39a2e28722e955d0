use Rattle.std.proofs.Common.{List, Option, Some, None, flat_map, option_map, refl, subst}
use Rattle.vhdl_parser_rules.specs.Expected.{Texts, said_of}
use Rattle.vhdl_expected.specs.Reading.{reading_of}
use Rattle.vhdl_expected.specs.Told.{Finds, Row, otherwise, tried_in}
use Rattle.vhdl_expected.proofs.telling.perhaps.Goals as goal

pub returns-in-Some : goal.returns-in-Some
returns-in-Some c =
    let r = reading_of c.args.reading in (
      Some (said_of c.in-Some.said),
      subst (λ (said : Option Texts). Finds r (otherwise r) (option_map said_of said)) c.in-Some.is
          (subst (λ (tables : List (List Row)). Finds r (flat_map (tried_in r) tables) (option_map said_of c.in_ok-said.field-0)) c.otherwise.ensures c.in_ok-said.ensures),
      refl,
    )

pub returns-in-None : goal.returns-in-None
returns-in-None c =
    let r = reading_of c.args.reading in (
      None,
      subst (λ (said : Option Texts). Finds r (otherwise r) (option_map said_of said)) c.in-None.is
          (subst (λ (tables : List (List Row)). Finds r (flat_map (tried_in r) tables) (option_map said_of c.in_ok-said.field-0)) c.otherwise.ensures c.in_ok-said.ensures),
      refl,
    )
